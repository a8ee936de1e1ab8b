use Rattle.std.proofs.Common.{◌≡◌, true, false, Option, Some, sym, ◌∙◌, ap}
use Rattle.hpb_codec.specs.declared.head.Head.{Head}
use Rattle.hpb_codec.specs.declared.layout.JournalShape.{JournalShape}
use Rattle.hpb_codec.specs.declared.state_format.StateFormat.{StateFormat}
use Rattle.hpb_journal.specs.Shapes.{shaped}
use Rattle.hpb_recover.specs.Heads.{layout_of}
use Rattle.hpb_recover.proofs.Heading.{is_formatted, not_formatted, is_laid_out, spelled_here}
use Rattle.hpb_recover.proofs.head.head_in.Goals as goal

same_first : {A B : Type 0} {a b : A} {f g : B} → ◌≡◌ {A = Option (A × B)} (Some (a, f)) (Some (b, g)) → a ≡ b
same_first {A = A} {B = B} {a = a} {b = b} {f = f} {g = g} e = let both : ◌≡◌ {A = A × B} (a, f) (b, g) = cc in ap (λ (p : A × B). p.0) both

pub returns-then-not-has_magic-clause-cause : goal.returns-then-not-has_magic-clause-cause
returns-then-not-has_magic-clause-cause c image begins =
    not_formatted c.args.bytes.now c.args.len image begins (λ known.
    let both : false ≡ true = sym c.if-not-has_magic.true ∙ c.has_magic.ensures.1 known in
    absurd (cc))

pub returns-in_default-clause-cause : goal.returns-in_default-clause-cause
returns-in_default-clause-cause c image begins = (
  is_formatted c.args.bytes.now c.args.len image begins (c.has_magic.ensures.0 c.if-not-has_magic.false),
  λ head laid.
      let spells = spelled_here c.args.bytes.now c.args.len image begins head laid in
      c.in_default.not-Some (head, spells.0) (c.in_ok-head.ensures.only head spells.0 spells.1),
)

pub returns-then-len-device_len-clause-cause : goal.returns-then-len-device_len-clause-cause
returns-then-len-device_len-clause-cause c image begins = (
  is_formatted c.args.bytes.now c.args.len image begins (c.has_magic.ensures.0 c.if-not-has_magic.false),
  λ head laid.
      let spells = spelled_here c.args.bytes.now c.args.len image begins head laid in
      let is : ◌≡◌ {A = Option (Head × StateFormat)} (Some (head, spells.0)) (Some (c.in-Some.head, c.in-Some._format)) = sym (c.in_ok-head.ensures.only head spells.0 spells.1) ∙ c.in-Some.is in
      let same : head ≡ c.in-Some.head = same_first is in
      c.if-len-device_len.true (sym begins.size ∙ laid.size ∙ ap (λ (h : Head). (layout_of h).size) same ∙ sym (c.device_len.ensures ∙ ap (λ (s : JournalShape). (shaped s).size) c.new.ensures)),
)

pub returns-clause-formatted : goal.returns-clause-formatted
returns-clause-formatted c image begins = is_formatted c.args.bytes.now c.args.len image begins (c.has_magic.ensures.0 c.if-not-has_magic.false)

pub returns-clause-laid : goal.returns-clause-laid
returns-clause-laid c image begins =
    let spells = rw c.in-Some.is at c.in_ok-head.ensures.found in
    is_laid_out c.args.bytes.now c.args.len image begins c.in-Some.head (c.in-Some._format, spells)
    (c.if-len-device_len.false ∙ c.device_len.ensures ∙ ap (λ (s : JournalShape). (shaped s).size) c.new.ensures)
