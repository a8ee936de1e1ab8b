use Rattle.std.proofs.Common.{◌+◌, ◌∷◌, [], None, length, drop, refl, ap, ◌∙◌}
use Rattle.std.proofs.lemmas.List.{drop-drop, length-append}
use Rattle.hpb_serve.specs.Sessions.{DeskStands}
use Rattle.hpb_serve.proofs.InFlight.{came_on, looked_self, looked_trans, none_taken, one_taken}
use Rattle.hpb_serve.proofs.Steps.{ring_kept}
use Rattle.hpb_serve.proofs.asking.take_answers.Goals as goal

pub loop-init : goal.loop-init
loop-init g c =
    let client = c.args.client.now in
    record {
      looked = looked_self client;
      waiting = refl;
      counted = ap length c.requires.none;
      taken = none_taken client c.args.replies.now c.requires.none;
    }

pub loop-preserved : goal.loop-preserved
loop-preserved g c =
    let first = c.args.client.now in
    let was = c.loop.invariant in
    let old = c.loop.client in
    let new = c.take_answer.new.client in
    let made = c.in-Ok.ensures in
    let answer = c.in-Ok.answer in
    record {
      looked = looked_trans first old new was.looked made.looked;
      waiting = made.taken.5 ∙ ap (λ ws. drop 1 ws) was.waiting ∙ drop-drop 1 c.loop.counter first.waiting.items;
      counted = ap length c.put.ensures ∙ length-append c.loop.replies (answer.reply ∷ []) ∙ ap (λ n. n + 1) was.counted;
      taken = rw c.put.ensures
          (one_taken first old new c.loop.counter answer c.loop.replies was.taken was.waiting was.looked.0 made.looked made.taken);
    }

pub returns-in-Err-clause-asked : goal.returns-in-Err-clause-asked
returns-in-Err-clause-asked g c commands state waits came =
    let was = c.loop.invariant in
    let old = c.loop.client in
    let new = c.take_answer.new.client in
    let made = c.in-Err.ensures in
    let before = was.taken commands state waits came in (
      before.0,
      rw was.counted before.1,
      came_on before.0 old new before.2 made.looked.0 (ring_kept old.letters new.letters made.looked.1) made.looked.2 made.looked.3,
      λ some none. absurd {A = DeskStands new None before.0} (cc none),
    )

pub returns-clause-asked : goal.returns-clause-asked
returns-clause-asked g c commands state waits came =
    let was = c.loop.invariant in
    let before = was.taken commands state waits came in
    (before.0, rw was.counted before.1, before.2, λ some none. before.4 (rw was.counted at some))
