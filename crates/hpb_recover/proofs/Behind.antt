-- The frames behind the last batch.
use Rattle.std.proofs.Common.{◌≡◌, inl, inr, Bool, true, false, ℕ, suc, ◌+◌, ◌-◌, ◌<◌, ◌≤◌, List, length, sym, subst, arith}
use Rattle.std.specs.Prelude.{slice_index_or}
use Rattle.std.proofs.lemmas.Bool.{cases_eq, cases_lt}
use Rattle.hpb_codec.proofs.States.{not_true}
use Rattle.hpb_rules.specs.AuctionValue.{AuctionValue}
use Rattle.hpb_journal.specs.Layouts.{Layout, IsLayout}
use Rattle.hpb_journal.specs.Frames.{IsOpen}
use Rattle.hpb_recover.specs.Replaying.{AreGates, AreKnown, IsBroken, IsReplayed, IsWhole, Leads, NoneIsOwn, OneIsOwn}
use Rattle.hpb_recover.proofs.Leading.{own_of_frame}

module _ (layout : Layout) (covered next : ℕ) (value reached : AuctionValue) (image : List ℕ) (known : List Bool)
    (leads : Leads layout covered value image next reached) (replayed : IsReplayed layout covered next known image) where
  -- a later frame is open with its own index
  pub broken : IsLayout layout → OneIsOwn layout (covered + length known) (covered + layout.count) image → IsBroken layout covered value image
  broken is one = elim (cases_eq next (covered + length known)) [
    | inl same ↦ absurd (omega (arith, replayed.all same, one.1, one.2))
    | inr before ↦ record {
      next = next;
      reached = reached;
      leads = leads;
      stopped = λ commands frame accepted. replayed.ended next (omega arith) (omega (arith, replayed.least, before)) (own_of_frame layout is value.rules next (suc reached.count) commands image frame);
      later = (one.0, omega (arith, replayed.least, one.1), one.2, one.3);
    }
  ]

  -- no later frame is
  module _ (gates : List Bool) (are : AreGates layout covered gates image) (all : length gates ≡ layout.count)
      (none : NoneIsOwn layout (covered + length known) (covered + layout.count) image)
      (place : ℕ) (from : next - covered ≤ place) (to : place ≤ length gates)
      (shut : (k : ℕ) → next - covered ≤ k → k < place → slice_index_or gates k false ≡ false)
      (up : place < length gates → slice_index_or gates place false ≡ true) where
    closed : (b : ℕ) → next ≤ b → b < covered + place → IsOpen layout b image → ⊥
    closed b least below is_open =
        let k = b - covered in
        let sum : covered + k ≡ b = omega (arith, least, leads.count) in
        let here : IsOpen layout (covered + k) image = subst (λ (i : ℕ). IsOpen layout i image) (sym sum) is_open in
        not_true (slice_index_or gates k false) (shut k (omega (arith, least)) (omega (arith, below, sum))) ((are k (omega (arith, below, sum, to))).1 here)

    pub whole : IsWhole layout covered value image next reached × AreKnown layout covered image next (covered + place) gates
    whole = (
      record {
        leads = leads;
        ended = λ b least below own. elim (cases_lt b (covered + length known)) [
          | inl before ↦ replayed.ended b least before own
          | inr behind ↦ none b behind below own
        ];
      },
      record {
        clean_ones = record {
          from = omega (arith, from, leads.count);
          to = omega (arith, to, all);
          shut = closed;
          first = λ less. (are place (omega (arith, less, all))).0 (up (omega (arith, less, all)));
        };
        gates = are;
        all = all;
      },
    )
