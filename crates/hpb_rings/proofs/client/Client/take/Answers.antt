use Rattle.std.proofs.Common.{◌≡◌, ◌<◌, ◌∙◌, length, arith, sym, ap, slice_get, slice_index_or, Some, List}
use Rattle.rtrb.specs.Ring.{sent}
use Rattle.std.proofs.lemmas.Bool.Decides.{nat_tests}
use Rattle.hpb_board.specs.Publication.{answers_of}
use Rattle.hpb_rings.proofs.Taking.{took, there-next, recent_is, newly-next, newly-most}
use Rattle.hpb_rings.specs.declared.waiting.Waiting.{Waiting}
use Rattle.hpb_rings.proofs.client.Client.take.Goals as goal

pub overflow_add-self-2 : goal.overflow_add-self-2
overflow_add-self-2 g c =
    let answers = answers_of c.args.self.now.seat c.args.self.now.viewer in
    let at : slice_get answers c.args.self.now.taken ≡ Some c.in-Some.answer = recent_is answers c.args.self.now.taken c.in-Some.answer (sym c.in-Some.ensures.next) in
    let h = there-next c.args.self.now.taken answers c.in-Some.answer at in
    let few = c.in-Some.ensures.few in omega (arith, h, few)

pub overflow_add-self : goal.overflow_add-self
overflow_add-self g c =
    let answers = answers_of c.args.self.now.seat c.args.self.now.viewer in
    let at : slice_get answers c.args.self.now.taken ≡ Some c.in-Some.answer = recent_is answers c.args.self.now.taken c.in-Some.answer (sym c.in-Some.ensures.next) in
    let h = there-next c.args.self.now.taken answers c.in-Some.answer at in
    let few = c.in-Some.ensures.few in
    let most = newly-most c.args.self.now.taken answers in
    omega (arith, h, few, most, c.args.self.now.counted, c.news_in.ensures.most)

pub invariant_of-self-clause-sent_is : goal.invariant_of-self-clause-sent_is
invariant_of-self-clause-sent_is g c =
    let answers = answers_of c.args.self.now.seat c.args.self.now.viewer in
    let n = c.args.self.now.taken in
    let at : slice_get answers n ≡ Some c.in-Some.answer = recent_is answers n c.in-Some.answer (sym c.in-Some.ensures.next) in
    let some : 0 < length c.args.self.now.waiting.items = grind (arith, nat_tests, c.is_empty.ensures, c.if-is_empty.false) in
    let fits = (c.is_for.ensures.0 c.if-not-is_for.false).0 in
    let w : Waiting = c.index-deref-0.result in
    let is = ap (λ (ws : List Waiting). (slice_index_or ws 0 w).letter) (sym c.deref.ensures.0) in
    let same = ap (λ (x : Waiting). x.letter) (sym c.index-deref-0.is) in
    rw c.remove.ensures.items (took n answers c.in-Some.answer c.args.self.now.waiting.items w (sent c.args.self.now.letters) at some (is ∙ (same ∙ fits)) c.args.self.now.sent_is)

pub invariant_of-self-clause-there : goal.invariant_of-self-clause-there
invariant_of-self-clause-there g c =
    let answers = answers_of c.args.self.now.seat c.args.self.now.viewer in
    let n = c.args.self.now.taken in
    let at : slice_get answers n ≡ Some c.in-Some.answer = recent_is answers n c.in-Some.answer (sym c.in-Some.ensures.next) in
    let h = there-next n answers c.in-Some.answer at in omega (arith, h)

pub invariant_of-self-clause-counted : goal.invariant_of-self-clause-counted
invariant_of-self-clause-counted g c =
    let answers = answers_of c.args.self.now.seat c.args.self.now.viewer in
    let n = c.args.self.now.taken in
    let at : slice_get answers n ≡ Some c.in-Some.answer = recent_is answers n c.in-Some.answer (sym c.in-Some.ensures.next) in
    let next = newly-next n answers c.in-Some.answer at in
    omega (arith, next, c.args.self.now.counted, c.news_in.ensures.value)
