-- A close forms the values at and above the nodes whose high bids it changes.
use Rattle.std.proofs.Common.{◌≡◌, ℕ, zero, suc, ◌+◌, ◌<◌, ◌≤◌, Bool, true, false, ◌&&◌, cond, ltb, List, length, Option, refl, sym, ap, ◌∙◌, arith, subst}
use Rattle.std.specs.Prelude.{if◌then◌else◌}
use Rattle.std.specs.List.{count_by, list_any, range_with_len}
use Rattle.std.proofs.lemmas.Bool.{ltb-true}
use Rattle.std.proofs.lemmas.List.Sums.{sum_by-cons}
use Rattle.hpb_rules.specs.declared.command.Offer.{Offer}
use Rattle.hpb_rules.specs.declared.command.Command.{Command}
use Rattle.hpb_rules.specs.declared.reply.Reply.TheVariants as replies
use Rattle.hpb_rules.specs.Tree.{places, at_or_under}
use Rattle.hpb_rules.specs.History.{amount_of, greater}
use Rattle.hpb_rules.specs.Saved.{has_bit}
use Rattle.hpb_rules.specs.AuctionValue.{AuctionValue, NodeBids}
use Rattle.hpb_rules.specs.Values.{reply_in}
use Rattle.hpb_rules.proofs.Ranges.{list_any_same}
use Rattle.hpb_bids.specs.View.{BooksView, offer_at, AreChanged}
use Rattle.hpb_winners.specs.Along.{is_reached, reached_count}
use Rattle.hpb_auction.specs.declared.auction.Auction.TheInside.{Inside}
use Rattle.hpb_auction.specs.declared.verdict.Verdict.{Verdict}
use Rattle.hpb_auction.specs.declared.verdict.Verdict.TheVariants.{New}
use Rattle.hpb_auction.specs.Verdicts.{reply_of, IfRepeat}
use Rattle.hpb_auction.specs.Inside.{value_inside}
use Rattle.hpb_auction.specs.Formed.{is_raised, is_formed, formed_at_close, formed_by, formed_in}
use Rattle.hpb_auction.proofs.CloseTables.{IsFolded}
use Rattle.hpb_auction.proofs.Histories.{new_told, old_told}
use Rattle.hpb_auction.proofs.Tables.{node_here}

-- the bit of a node says whether its high bid is raised
bit_raised : (old incoming new : Option Offer) (bit : Bool) → new ≡ greater old incoming → (bit ≡ true → new ≡ old → ⊥) → (bit ≡ false → new ≡ old)
    → bit ≡ ltb (amount_of old) (amount_of incoming)
bit_raised old incoming new bit e changed same = by (ltb (amount_of old) (amount_of incoming)) refl bit refl
  where
    by : (more : Bool) → ltb (amount_of old) (amount_of incoming) ≡ more → (set : Bool) → bit ≡ set → set ≡ more
    by true p true q = refl
    by true p false q =
        let stays : old ≡ incoming = sym (same q) ∙ e ∙ taken p in
        absurd (omega (arith, ltb-true _ _ p, ap amount_of stays))
      where
        taken : ltb (amount_of old) (amount_of incoming) ≡ true → greater old incoming ≡ incoming
        taken p = rw p refl
    by false p true q = absurd (changed q (e ∙ kept p))
      where
        kept : ltb (amount_of old) (amount_of incoming) ≡ false → greater old incoming ≡ old
        kept p = rw p refl
    by false p false q = refl

-- tests that agree at each place hold at equally many
count_same : (p q : ℕ → Bool) (a k : ℕ) → ((n : ℕ) → a ≤ n → n < a + k → p n ≡ q n) → count_by p (range_with_len a k) ≡ count_by q (range_with_len a k)
count_same p q a zero same = refl
count_same p q a (suc k) same =
    sum_by-cons (λ n. cond (p n) 1 0) a (range_with_len (a + 1) k)
    ∙ both (p a) (q a) _ _ (same a (omega arith) (omega arith)) (count_same p q (a + 1) k (λ n l m. same n (omega arith) (omega arith)))
    ∙ sym (sum_by-cons (λ n. cond (q n) 1 0) a (range_with_len (a + 1) k))
  where
    both : (b c : Bool) (m n : ℕ) → b ≡ c → m ≡ n → cond b 1 0 + m ≡ cond c 1 0 + n
    both b c m n e f = cc

module _ (a : Inside) (books' : BooksView) (changed : ℕ) (folded : IsFolded a.books books') (are : AreChanged a.books books' changed) where
  raised : (n : ℕ) → n < length a.definition.nodes → has_bit changed n ≡ is_raised (value_inside a) n
  raised n h =
      bit_raised (offer_at a.books.standing n) (offer_at a.books.incoming n) (offer_at books'.standing n) (has_bit changed n) (folded.standing n) (are.changed n) (are.same n)
      ∙ sym (ap (λ (bids : NodeBids). ltb (amount_of bids.high) (amount_of bids.incoming)) (node_here a n h))

  pub formed_is : reached_count a.definition.nodes changed ≡ formed_at_close (value_inside a)
  formed_is = count_same (is_reached a.definition.nodes changed) (is_formed (value_inside a)) 0 (length a.definition.nodes)
      (λ n l m. list_any_same _ _ 0 (length a.definition.nodes) (λ k g h. ap (λ bit. bit && at_or_under a.definition.nodes n k) (raised k (omega arith))))

-- how many values a new command forms; any other forms none
pub formed_new : (q : AuctionValue) (command : Command) (number : ℕ) → replies.Ok number ≡ reply_in q command → number ≡ q.count + 1 → formed_by q command ≡ formed_in q command
formed_new q command number reply e = sym (ap (λ b. if b then formed_by q command else 0) (new_told q command number reply e))

pub formed_old : (q : AuctionValue) (command : Command) (verdict : Verdict) → reply_of verdict ≡ reply_in q command → ((number : ℕ) → verdict ≡ New number → ⊥) → IfRepeat verdict (λ number. number ≤ q.count)
    → 0 ≡ formed_in q command
formed_old q command verdict reply not_new older = sym (ap (λ b. if b then formed_by q command else 0) (old_told q command verdict reply not_new older))
