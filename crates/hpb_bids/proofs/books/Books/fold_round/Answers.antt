use Rattle.std.proofs.Common.{◌≡◌, ◌++◌, List, map, take, drop, length, replicate, get_or, refl, ap, subst, sym, ◌∙◌, arith}
use Rattle.std.proofs.lemmas.List.Edits.{map_over_more}
use Rattle.std.proofs.lemmas.List.{length-map}
use Rattle.std.specs.Prelude.{All}
use Rattle.hpb_bids.specs.Inside.{closed, is_raised, IsSmall, tables_view}
use Rattle.hpb_bids.specs.declared.books.NodeBids.{NodeBids}
use Rattle.hpb_bids.proofs.History.{folded_are_books, folded_standing, folded_incoming, folded_quiet}
use Rattle.hpb_bids.proofs.Tables.{kept_view, whole, folded_view, small_all_closed}
use Rattle.hpb_bids.proofs.Masks.{AreRaised, none_raised, raised_at, raised_row, row_kept, raised_more, raised_no_more, raised_all}
use Rattle.hpb_bids.proofs.books.Books.fold_round.Goals.{then-fold, else-fold}
use Rattle.hpb_bids.proofs.books.Books.fold_round.Goals as goal

pub loop-place-init : goal.loop-place-init
loop-place-init c = record { rows = refl; raised = none_raised c.deref_mut-bids-items.result.now }

pub loop-place-preserved : goal.loop-place-preserved
loop-place-preserved c =
    let nodes = c.deref_mut-bids-items.result.now in
    let small : length nodes ≡ 127 = omega (arith, ap length c.deref_mut-bids-items.ensures.value, c.self.invariant.nodes) in
    let found : c.bids-item.result ≡ get_or nodes c.loop-place.place c.bids-item.result = row_kept nodes c.loop-place.place c.loop-place.bids-items c.bids-item.result c.loop-place-test.true c.loop-place.invariant.rows c.bids-item.is in
    let row : raised_at nodes c.loop-place.place ≡ is_raised c.bids-item.result = raised_row nodes c.loop-place.place c.bids-item.result c.loop-place-test.true found in
    record {
      rows = rw (c.fold.ensures.closed, ← c.bids-item.is) (map_over_more closed nodes c.loop-place.bids-items c.loop-place.place c.bids-item.result c.loop-place-test.true c.loop-place.invariant.rows c.bids-item.is);
      raised = elim c.if-fold.branch [
        | then-fold w ↦ raised_more nodes c.loop-place.place c.loop-place.changed c.loop-place.invariant.raised (omega arith) (row ∙ ap is_raised c.bids-item.is ∙ sym c.fold.ensures.raised ∙ w.if-fold.true) w.changed-is
        | else-fold w ↦ raised_no_more nodes c.loop-place.place c.loop-place.changed c.loop-place.invariant.raised (row ∙ ap is_raised c.bids-item.is ∙ sym c.fold.ensures.raised ∙ w.if-fold.false) w.changed-is
      ];
    }

rows : (c : goal.After-fill) → take c.self.inside.nodes.len (c.loop-place.bids-items ++ drop (length c.loop-place.bids-items) c.self.inside.nodes.items) ≡ map closed c.self.inside.nodes.items
rows c =
    let seen : c.deref_mut-bids-items.result.now ≡ c.self.inside.nodes.items = c.deref_mut-bids-items.ensures.value in
    whole _ _ c.loop-place.place _ (omega (arith, c.loop-place-test.false, ap length seen))
    (c.loop-place.invariant.rows ∙ ap (λ (xs : List NodeBids). map closed (take c.loop-place.place xs) ++ drop c.loop-place.place xs) seen)
    c.self.inside.nodes.ok.0

pub invariant_of-self : goal.invariant_of-self
invariant_of-self c = record {
  nodes = ap length (rows c) ∙ length-map c.self.inside.nodes.items closed ∙ c.self.invariant.nodes;
  bids = omega (arith, c.fill.ensures.len, c.self.invariant.bids, c.self.inside.bids.ok.0, c.fill.new.self.ok.0);
  amounts = subst (All IsSmall) (sym (rows c)) (small_all_closed c.self.inside.nodes.items c.self.invariant.amounts);
}

pub returns-clause-value : goal.returns-clause-value
returns-clause-value c =
    ap (λ xs. tables_view xs c.fill.new.self.items) (rows c) ∙ ap (tables_view (map closed c.self.inside.nodes.items)) (c.fill.ensures.items (λ y h. h) ∙ ap (λ k. replicate k 0) c.self.inside.bids.ok.0)
    ∙ folded_view c.self.inside.nodes.items c.self.inside.bids.items c.args.self.now c.self.view_is

pub returns-clause-history : goal.returns-clause-history
returns-clause-history c =
    let sized = kept_view c.self.inside c.args.self.now c.self.view_is c.self.invariant in
    folded_are_books sized (returns-clause-value c)

pub returns-clause-standing : goal.returns-clause-standing
returns-clause-standing c =
    let sized = kept_view c.self.inside c.args.self.now c.self.view_is c.self.invariant in
    folded_standing sized (returns-clause-value c)

pub returns-clause-incoming : goal.returns-clause-incoming
returns-clause-incoming c = folded_incoming c.args.self.now (returns-clause-value c)

pub returns-clause-quiet : goal.returns-clause-quiet
returns-clause-quiet c = folded_quiet c.args.self.now (returns-clause-value c)

pub returns-clause-changed : goal.returns-clause-changed
returns-clause-changed c =
    let sized = kept_view c.self.inside c.args.self.now c.self.view_is c.self.invariant in
    raised_all c.self.inside.nodes.items c.self.inside.bids.items c.loop-place.place c.loop-place.changed c.self.view_is sized (returns-clause-value c) (omega (arith, c.loop-place-test.false, ap length c.deref_mut-bids-items.ensures.value))
    (subst (λ nodes. AreRaised nodes c.loop-place.place c.loop-place.changed) c.deref_mut-bids-items.ensures.value c.loop-place.invariant.raised)
