-- What becomes of letters that are offered.
use Rattle.std.specs.Prelude.{◌≡◌, ◌<◌, Bool, true, false, List, [], Option, Some, None}
use Rattle.hpb_rules.specs.declared.letter.Answer.{Answer}
use Rattle.hpb_rules.specs.declared.letter.Letter.{Letter}
use Rattle.hpb_rules.specs.Letters.{new_commands}
use Rattle.hpb_rules.specs.Machine.{Machine, Effect, take_letters}
use Rattle.hpb_rules.specs.Tree.{Rules}
use Rattle.hpb_rules.specs.Values.{value_after}
use Rattle.hpb_rules.specs.Judging.{judged_in}
use Rattle.hpb_engine.specs.declared.progress.Progress.{Progress}
use Rattle.hpb_engine.specs.Moves.{begun}
use Rattle.hpb_engine.specs.declared.begun.Bar.{Bar}
use Rattle.hpb_engine.specs.declared.begun.Bar.TheVariants as bars
use Rattle.hpb_engine.specs.declared.begun.Begun.{Begun}
use Rattle.hpb_engine.specs.declared.begun.Begun.TheVariants as outcomes
use Rattle.hpb_engine.specs.declared.begun.Weight.{Weight}
use Rattle.hpb_engine.specs.declared.begun.Weight.TheVariants as weights

-- **Offers.**
--
-- None of the letters is newly accepted.
abbrev pub AreOld : Progress → List Letter → Type 0
AreOld s letters = new_commands (judged_in s.committed letters) ≡ []

-- The weight of letters: the first of these that applies. They are full only if no clean frame is left.
abbrev pub Weighs : (failed : Bool) → Progress → List Letter → Weight → Type 0
Weighs failed s letters weights.Failed = failed ≡ true
Weighs failed s letters weights.Busy = (failed ≡ false) × (s.commit.busy ≡ true)
Weighs failed s letters weights.Old = (failed ≡ false) × (s.commit.busy ≡ false) × AreOld s letters
Weighs failed s letters weights.Full = (failed ≡ false) × (s.commit.busy ≡ false) × (AreOld s letters → ⊥) × (s.window.next ≡ s.window.clean_end)
Weighs failed s letters weights.New = (failed ≡ false) × (s.commit.busy ≡ false) × (AreOld s letters → ⊥) × (s.window.next < s.window.clean_end)

-- The weight of letters that are barred.
abbrev pub weight_by : Bar → Weight
weight_by bars.Failed = weights.Failed
weight_by bars.Busy = weights.Busy
weight_by bars.Full = weights.Full

-- Nothing bars letters: no call has failed, no batch is in flight, and, if one of them is new, a clean frame is left.
abbrev pub CanTake : (failed : Bool) → Progress → List Letter → Type 0
CanTake failed s letters = (failed ≡ false) × (s.commit.busy ≡ false) × ((AreOld s letters → ⊥) → s.window.next < s.window.clean_end)

-- The result for letters that nothing bars: answers leave, or they are in flight.
abbrev pub taken : Option (List Answer) → Begun
taken (Some answers) = outcomes.Answered answers
taken None = outcomes.InFlight

-- The weight that this result has.
abbrev pub weight_of : Begun → Weight
weight_of (outcomes.Failed letters) = weights.Failed
weight_of (outcomes.Busy letters) = weights.Busy
weight_of (outcomes.Answered answers) = weights.Old
weight_of (outcomes.Full letters) = weights.Full
weight_of outcomes.InFlight = weights.New

-- The result for this weight. Letters that aren't taken are handed back, and letters that are answered at once get
-- these answers.
abbrev pub begun_of : Weight → List Letter → List Answer → Begun
begun_of weights.Failed letters leaving = outcomes.Failed letters
begun_of weights.Busy letters leaving = outcomes.Busy letters
begun_of weights.Old letters leaving = outcomes.Answered leaving
begun_of weights.Full letters leaving = outcomes.Full letters
begun_of weights.New letters leaving = outcomes.InFlight

-- If letters are handed back, nothing changes, and the machine has no event. Otherwise it takes them.
--
-- Letters that aren't taken are handed back.
abbrev pub HandsBack : List Letter → Begun → Type 0
HandsBack letters (outcomes.Failed back) = back ≡ letters
HandsBack letters (outcomes.Busy back) = back ≡ letters
HandsBack letters (outcomes.Answered answers) = Unit {0}
HandsBack letters (outcomes.Full back) = back ≡ letters
HandsBack letters outcomes.InFlight = Unit {0}

-- If nothing is put in flight, nothing changes. Otherwise the batch in flight alone changes, and it has had no turn.
abbrev pub StaysUnlessInFlight : Begun → Progress → Progress → Type 0
StaysUnlessInFlight outcomes.InFlight s t = t ≡ begun s t.commit.batch t.commit.answers t.commit.working
StaysUnlessInFlight (outcomes.Failed back) s t = t ≡ s
StaysUnlessInFlight (outcomes.Busy back) s t = t ≡ s
StaysUnlessInFlight (outcomes.Answered answers) s t = t ≡ s
StaysUnlessInFlight (outcomes.Full back) s t = t ≡ s

-- Every letter that is taken is judged by the committed auction. This holds for letters answered at once, and for
-- letters in flight. The working auction then is the committed one with the commands that it newly accepts.
abbrev pub AreJudged : Begun → List Letter → Progress → Progress → Type 0
AreJudged (outcomes.Failed back) letters s t = Unit {0}
AreJudged (outcomes.Busy back) letters s t = Unit {0}
AreJudged (outcomes.Answered answers) letters s t = answers ≡ judged_in s.committed letters
AreJudged (outcomes.Full back) letters s t = Unit {0}
AreJudged outcomes.InFlight letters s t =
    (t.commit.answers ≡ judged_in s.committed letters) × (t.commit.working ≡ value_after s.committed (new_commands (judged_in s.committed letters)))

-- What an offer does to the machine without a disk: it takes the letters, or there is no event if they are handed back.
abbrev pub offer_by : Begun → Rules → Machine → List Letter → Effect
offer_by (outcomes.Failed back) rules machine letters = record { leaving = []; machine = machine }
offer_by (outcomes.Busy back) rules machine letters = record { leaving = []; machine = machine }
offer_by (outcomes.Answered answers) rules machine letters = take_letters rules machine letters
offer_by (outcomes.Full back) rules machine letters = record { leaving = []; machine = machine }
offer_by outcomes.InFlight rules machine letters = take_letters rules machine letters

-- The answers that leave with an offer.
abbrev pub leaving_at : Begun → List Answer
leaving_at (outcomes.Failed back) = []
leaving_at (outcomes.Busy back) = []
leaving_at (outcomes.Answered answers) = answers
leaving_at (outcomes.Full back) = []
leaving_at outcomes.InFlight = []
