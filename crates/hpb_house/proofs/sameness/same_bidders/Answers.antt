use Rattle.std.proofs.Common.{rules, ◌≡◌, ℕ, Option, Bool, ◌&&◌, eqb, ap}
use Rattle.std.specs.Bool.{Decides}
use Rattle.std.specs.Cmp.{booleans_Decides}
use Rattle.std.proofs.lemmas.Bool.{eq-eqb, eqb-true}
use Rattle.std.proofs.lemmas.Bool.Decides.{Decides-and}
use Rattle.hpb_rules.specs.declared.saved.Accepted.{Accepted}
use Rattle.hpb_rules.specs.declared.saved.SavedBidder.{SavedBidder}
use Rattle.hpb_house.proofs.Slices.{slices_same}
use Rattle.hpb_house.proofs.sameness.same_bidders.Goals as goal

number_decides : (one other : ℕ) → Decides (eqb one other) (one ≡ other)
number_decides one other = (eqb-true one other, eq-eqb one other)

-- bidders are the same if each of their fields is
fields_decide : {a b : SavedBidder} {x y z w v : Bool} → Decides x (a.eligibility ≡ b.eligibility) → Decides y (a.last ≡ b.last) → Decides z (a.bid_on ≡ b.bid_on) → Decides w (a.waivers ≡ b.waivers) → Decides v (a.has_waived ≡ b.has_waived)
    → Decides (x && (y && (z && (w && v)))) (a ≡ b)
fields_decide {a = a} {b = b} e l m w h =
    let all = Decides-and _ _ e (Decides-and _ _ l (Decides-and _ _ m (Decides-and _ _ w h))) in (
      λ t. let parts = all.0 t in join parts.0 parts.1.0 parts.1.1.0 parts.1.1.1.0 parts.1.1.1.1,
      λ same. all.1 (ap (λ (s : SavedBidder). s.eligibility) same, (ap (λ (s : SavedBidder). s.last) same, (ap (λ (s : SavedBidder). s.bid_on) same, (ap (λ (s : SavedBidder). s.waivers) same, ap (λ (s : SavedBidder). s.has_waived) same)))),
    )
  where
    join : a.eligibility ≡ b.eligibility → a.last ≡ b.last → a.bid_on ≡ b.bid_on → a.waivers ≡ b.waivers → a.has_waived ≡ b.has_waived → a ≡ b
    join e l m w h = by e l m w h
      where
        by : {units units' mask mask' left left' : ℕ} {last last' : Option Accepted} {waived waived' : Bool} → units ≡ units' → last ≡ last' → mask ≡ mask' → left ≡ left' → waived ≡ waived'
            → ◌≡◌ {A = SavedBidder} (record { eligibility = units; last = last; bid_on = mask; waivers = left; has_waived = waived }) (record { eligibility = units'; last = last'; bid_on = mask'; waivers = left'; has_waived = waived' })
        by e l m w h = cc

pub returns : goal.returns
returns c = slices_same _ _ _ c.eq.ensures (λ a b. fields_decide (number_decides a.eligibility b.eligibility) (search rules) (number_decides a.bid_on b.bid_on) (number_decides a.waivers b.waivers) (booleans_Decides a.has_waived b.has_waived))
