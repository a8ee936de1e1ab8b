-- The bytes that a device begins with.
use Rattle.std.proofs.Common.{◌≡◌, ℕ, List, [], take, None, refl, sym, ◌∙◌, ap, subst}
use Rattle.hpb_rules.specs.Tree.{Rules}
use Rattle.hpb_rules.specs.Drafts.{draft_refusal}
use Rattle.hpb_rules.specs.declared.saved.Saved.{Saved}
use Rattle.hpb_rules.specs.AuctionValue.{AuctionValue, Shows}
use Rattle.hpb_rules.specs.Saved.{restored}
use Rattle.hpb_codec.specs.Heads.{magic, head_of, head_fields}
use Rattle.hpb_codec.specs.Layouts.{IsShape}
use Rattle.hpb_codec.specs.declared.layout.JournalShape.{JournalShape}
use Rattle.hpb_codec.specs.declared.state_format.StateFormat.TheVariants.{Two}
use Rattle.hpb_codec.specs.Numbers.{before, filled}
use Rattle.hpb_codec.specs.States.{SpellsStateIn}
use Rattle.hpb_format.specs.Beginnings.{IsFirstHead, IsFirstState}

-- The bytes of a head begin with the magic.
begins_with_magic : (rules : Rules) (journal : JournalShape) → take 8 (head_of rules journal Two) ≡ magic
unfolding head_of head_fields filled
begins_with_magic rules journal = refl

pub first_head_is : (rules : Rules) (journal : JournalShape) (bytes : List ℕ) → draft_refusal rules ≡ None → IsShape journal → bytes ≡ head_of rules journal Two → IsFirstHead rules journal bytes
first_head_is rules journal bytes accepted allowed is = record {
  spelled = record { is = record { definition = accepted; journal = allowed }; readable = tt; spelled = is };
  known = ap (λ (l : List ℕ). take 8 l) is ∙ begins_with_magic rules journal;
}

pub first_state_is : (rules : Rules) (value : AuctionValue) (saved : Saved) (bytes : List ℕ) → value.rules ≡ rules → SpellsStateIn Two value.rules bytes saved 0 → restored value.rules saved ≡ value → Shows value []
    → IsFirstState rules bytes
first_state_is rules value saved bytes same spelled back shows = record {
  saved = saved;
  spelled = subst (λ (r : Rules). SpellsStateIn Two r bytes saved 0) same spelled;
  shows = subst (λ (r : Rules). Shows (restored r saved) []) same (subst (λ (v : AuctionValue). Shows v []) (sym back) shows);
}

pub before_is : (bytes : List ℕ) → before 8 bytes ≡ take 8 bytes
unfolding before
before_is bytes = refl
