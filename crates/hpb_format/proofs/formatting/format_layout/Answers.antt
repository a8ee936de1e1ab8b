use Rattle.std.proofs.Common.{◌≡◌, ℕ, Some, refl, ◌∙◌, ap, subst}
use Rattle.hpb_codec.specs.declared.layout.JournalLayout.{JournalLayout}
use Rattle.hpb_codec.specs.declared.layout.JournalShape.{JournalShape}
use Rattle.hpb_format.specs.Outcomes.{answer_of, given, FormatsAs, Names}
use Rattle.hpb_format.proofs.formatting.format_layout.Goals as goal

some_same : {x y : JournalLayout} → Some x ≡ Some y → x ≡ y
some_same e = cc

abbrev shape : JournalLayout → ℕ → JournalShape
shape layout frames = record { layout = layout; frames = frames }

-- The shape that is formatted is the one that the numbers name.
named : (layout frames : ℕ) (found : JournalLayout) (journal : JournalShape) → Names layout frames journal → Some found ≡ Some journal.layout → shape found frames ≡ journal
named layout frames found journal names same = ap (λ (l : JournalLayout). shape l frames) (some_same same) ∙ ap (shape journal.layout) names.frames_are

pub returns-in-Some-clause-unnamed : goal.returns-in-Some-clause-unnamed
returns-in-Some-clause-unnamed g c none = absurd (none (shape c.in-Some.layout c.args.frames) (record { layout_is = c.in-Some.ensures.found; frames_are = refl }))

pub returns-in-Some-clause-formats : goal.returns-in-Some-clause-formats
returns-in-Some-clause-formats g c journal names =
    subst (λ (j : JournalShape). FormatsAs g.D.Disk.device c.args.definition.now j c.args.disk (given c.format_shape.result) (answer_of c.format_shape.result))
    (named c.args.layout c.args.frames c.in-Some.layout journal names (c.in-Some.ensures.only journal.layout names.layout_is)) c.format_shape.ensures
