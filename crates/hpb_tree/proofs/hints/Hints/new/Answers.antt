use Rattle.std.proofs.Common.{◌≡◌, ℕ, ◌<◌, replicate, length, map, ap, ◌∙◌}
use Rattle.std.proofs.Math.ListN.{length-set}
use Rattle.std.proofs.lemmas.List.{length-replicate, take_all}
use Rattle.std.proofs.lemmas.List.Elements.{All-replicate, All-set}
use Rattle.hpb_tree.specs.Keys.{key_of}
use Rattle.hpb_tree.proofs.Keys.{keys_more}
use Rattle.hpb_tree.proofs.hints.Hints.new.Goals as goal

pub loop-place-init : goal.loop-place-init
loop-place-init g c =
    let filled : c.in_ok-places.places.items ≡ replicate 4096 0 = c.in_ok-places.ensures.items_if_clones_equal (λ other same. same) in
    record {
      size = ap length filled ∙ length-replicate {A = ℕ} 4096 0;
      within = rw filled (All-replicate (λ place. place < length c.args.items.now) 4096 0 c.requires.some);
      keys = c.in_ok-keys.ensures.items;
    }

pub loop-place-preserved : goal.loop-place-preserved
loop-place-preserved g c =
    let key : c.of-key.result ≡ key_of (g.T.Named.named c.index-items-place.result) = c.of-key.ensures ∙ ap key_of (c.as_bytes.ensures.value ∙ c.name.ensures) in
    record {
      size = length-set c.loop-place.places.items c.hint_of.result c.loop-place.place ∙ c.loop-place.invariant.size;
      within = All-set (λ place. place < length c.args.items.now) c.loop-place.places.items c.hint_of.result c.loop-place.place c.loop-place-test.true c.loop-place.invariant.within;
      keys =
          rw c.in_ok-push.ensures.items
          (keys_more g.T.Named.named c.args.items.now c.loop-place.place c.index-items-place.result c.loop-place.keys.items c.of-key.result c.loop-place-test.true c.index-items-place.is key c.loop-place.invariant.keys);
    }

pub returns : goal.returns
returns g c = c.loop-place.invariant.keys ∙ ap (map (λ item. key_of (g.T.Named.named item))) (take_all c.loop-place.place c.args.items.now c.loop-place-test.false)
