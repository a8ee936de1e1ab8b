use Rattle.std.proofs.Common.{◌≡◌, ℕ, Bool, true, false, not, refl, sym, ap, ◌∙◌, arith, subst}
use Rattle.std.proofs.lemmas.Bool.{lt-ltb, le-ltb}
use Rattle.hpb_rules.specs.declared.command.Command.TheVariants.{Bid}
use Rattle.hpb_rules.specs.declared.limits.TheConstants.{MOST_AMOUNT}
use Rattle.hpb_rules.specs.Tree.{TreeRules}
use Rattle.hpb_rules.specs.Values.{fault_in}
use Rattle.hpb_units.specs.Holdings.{AreSmall, AreSummed, AreHoldings}
use Rattle.hpb_auction.proofs.Holdings.{small}
use Rattle.hpb_auction.proofs.Faults.{first_fault, fault_is, stepped_at, low_found, again_found, over}
use Rattle.hpb_auction.proofs.auction.Auction.bid_fault.Goals as goal
use Rattle.hpb_auction.proofs.auction.Auction.bid_fault.Goals.{After-fits}

pub returns-then-amount-minimum-clause-value : goal.returns-then-amount-minimum-clause-value
returns-then-amount-minimum-clause-value c =
    fault_is c.args.self.now c.args.bidder c.args.node c.args.amount true true _ _ _
    (stepped_at c.self.inside c.args.self.now c.self.view_is c.args.amount c.step.result c.is_multiple.result c.is_multiple.ensures c.step.ensures.value c.if-not-is_multiple.false)
    (low_found c.self.inside c.self.invariant c.args.self.now c.self.view_is c.args.bidder c.args.node c.args.amount c.requires.bidder c.requires.node c.minimum.result c.minimum.ensures ∙ lt-ltb c.args.amount c.minimum.result (omega (arith, c.if-amount-minimum.true)))
    refl refl refl

pub returns-then-amount-gt-MOST_AMOUNT-clause-value : goal.returns-then-amount-gt-MOST_AMOUNT-clause-value
returns-then-amount-gt-MOST_AMOUNT-clause-value c =
    fault_is c.args.self.now c.args.bidder c.args.node c.args.amount true false true _ _
    (stepped_at c.self.inside c.args.self.now c.self.view_is c.args.amount c.step.result c.is_multiple.result c.is_multiple.ensures c.step.ensures.value c.if-not-is_multiple.false)
    (low_found c.self.inside c.self.invariant c.args.self.now c.self.view_is c.args.bidder c.args.node c.args.amount c.requires.bidder c.requires.node c.minimum.result c.minimum.ensures ∙ le-ltb c.args.amount c.minimum.result (omega (arith, c.if-amount-minimum.false)))
    (lt-ltb MOST_AMOUNT c.args.amount (omega (arith, c.if-amount-gt-MOST_AMOUNT.true)))
    refl refl

pub returns-then-has_bid_on-clause-value : goal.returns-then-has_bid_on-clause-value
returns-then-has_bid_on-clause-value c =
    fault_is c.args.self.now c.args.bidder c.args.node c.args.amount true false false true _
    (stepped_at c.self.inside c.args.self.now c.self.view_is c.args.amount c.step.result c.is_multiple.result c.is_multiple.ensures c.step.ensures.value c.if-not-is_multiple.false)
    (low_found c.self.inside c.self.invariant c.args.self.now c.self.view_is c.args.bidder c.args.node c.args.amount c.requires.bidder c.requires.node c.minimum.result c.minimum.ensures ∙ le-ltb c.args.amount c.minimum.result (omega (arith, c.if-amount-minimum.false)))
    (le-ltb MOST_AMOUNT c.args.amount (omega (arith, c.if-amount-gt-MOST_AMOUNT.false)))
    (again_found c.self.inside c.self.invariant c.args.self.now c.self.view_is c.args.bidder c.args.node c.args.amount c.requires.bidder c.requires.node ∙ sym c.has_bid_on.ensures ∙ c.if-has_bid_on.true)
    refl

-- the fault of a bid that has no earlier one, by whether its node fits
by_fits : (c : After-fits) (is_over : Bool) → not c.fits.result ≡ is_over → (ticket : ℕ) → first_fault true false false false is_over ≡ fault_in c.args.self.now (Bid c.args.bidder ticket c.args.node c.args.amount)
by_fits c is_over e =
    fault_is c.args.self.now c.args.bidder c.args.node c.args.amount true false false false is_over
    (stepped_at c.self.inside c.args.self.now c.self.view_is c.args.amount c.step.result c.is_multiple.result c.is_multiple.ensures c.step.ensures.value c.if-not-is_multiple.false)
    (low_found c.self.inside c.self.invariant c.args.self.now c.self.view_is c.args.bidder c.args.node c.args.amount c.requires.bidder c.requires.node c.minimum.result c.minimum.ensures ∙ le-ltb c.args.amount c.minimum.result (omega (arith, c.if-amount-minimum.false)))
    (le-ltb MOST_AMOUNT c.args.amount (omega (arith, c.if-amount-gt-MOST_AMOUNT.false)))
    (again_found c.self.inside c.self.invariant c.args.self.now c.self.view_is c.args.bidder c.args.node c.args.amount c.requires.bidder c.requires.node ∙ sym c.has_bid_on.ensures ∙ c.if-has_bid_on.false)
    (over c.self.inside c.self.invariant c.args.self.now c.self.view_is c.args.bidder c.args.node c.args.amount c.place.result c.requires.bidder c.requires.node c.index.result.now c.index.ensures c.place.ensures.value c.tree-tree.result.now c.tree-tree.ensures c.fits.result
    (c.fits.ensures c.self.inside.books c.self.inside.outcome (subst (λ (t : TreeRules). AreHoldings t.nodes c.self.inside.books c.self.inside.outcome c.self.inside.holdings) (sym c.tree-tree.ensures) c.self.invariant.holdings))
    ∙ e)

pub returns-then-not-fits-clause-value : goal.returns-then-not-fits-clause-value
returns-then-not-fits-clause-value c = by_fits (goal.at.returns-then-not-fits-clause-value c).After-fits true (ap not c.if-not-fits.true)

pub returns-clause-value : goal.returns-clause-value
returns-clause-value c = by_fits (goal.at.returns-clause-value c).After-fits false (ap not c.if-not-fits.false)

pub fits-requires-clause-small : goal.fits-requires-clause-small
fits-requires-clause-small c = subst (λ (t : TreeRules). AreSmall t.nodes) (sym c.tree-tree.ensures) (small c.self.inside.definition c.self.invariant.accepted)

pub fits-requires-clause-summed : goal.fits-requires-clause-summed
fits-requires-clause-summed c = subst (λ (t : TreeRules). AreSummed t.nodes c.self.inside.holdings) (sym c.tree-tree.ensures) c.self.invariant.holdings.summed
