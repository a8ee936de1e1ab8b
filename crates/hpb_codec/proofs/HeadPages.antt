-- Page 0 of a head, field by field.
use Rattle.std.proofs.Common.{◌≡◌, ℕ, ◌+◌, ◌-◌, ◌*◌, ◌/◌, ◌%◌, ◌<◌, ◌≤◌, List, ◌++◌, length, take, refl, sym, ap, ◌∙◌, arith, append_assoc, length-append}
use Rattle.std.specs.Prelude.{◌^◌}
use Rattle.std.specs.List.{flat_map}
use Rattle.std.proofs.lemmas.List.{append-nil, take_at}
use Rattle.hpb_rules.specs.Tree.{Rules}
use Rattle.hpb_rules.specs.Definitions.{IsDefinition}
use Rattle.hpb_codec.specs.Numbers.{number, filled, leading, rest, value_from}
use Rattle.hpb_codec.specs.Sizes.{length-number, behind, behind_text}
use Rattle.hpb_codec.specs.NodePages.{node_of, node_page_of, HasEntry}
use Rattle.hpb_codec.specs.BidderPages.{bidder_page_of}
use Rattle.hpb_codec.specs.Layouts.{layout_byte}
use Rattle.hpb_codec.specs.declared.head.Head.{Head}
use Rattle.hpb_codec.specs.declared.layout.JournalLayout.{JournalLayout}
use Rattle.hpb_codec.specs.declared.layout.JournalLayout.TheVariants.{Pages, Cells}
use Rattle.hpb_codec.specs.declared.layout.JournalShape.{JournalShape}
use Rattle.hpb_codec.specs.declared.state_format.StateFormat.{StateFormat}
use Rattle.hpb_codec.specs.declared.state_format.StateFormat.TheVariants.{One, Two}
use Rattle.hpb_codec.specs.StateFormats.{format_byte}
use Rattle.hpb_codec.specs.Heads.{head_fields, head_of, head_page_of, magic, SpellsHead}
use Rattle.hpb_codec.proofs.Definitions.{nodes_fit}
use Rattle.hpb_codec.proofs.Entries.{entries_sized, node_sized}
use Rattle.hpb_codec.proofs.Fronts.{same_number, same_text}

-- the page as its fields one after another
pub page_is : (rules : Rules) (journal : JournalShape) (format : StateFormat)
    → head_page_of rules journal format ≡ magic ++ (number 1 (layout_byte journal.layout) ++ (number 1 (format_byte format) ++ (number 1 (length rules.nodes) ++ (number 1 (length rules.bidders) ++ (number 1 rules.percent ++ (number 1 (length rules.stages)
    ++ (filled 4 rules.stages ++ (number 1 rules.waivers ++ (number 1 0 ++ (number 4 rules.step ++ (number 4 journal.frames ++ number (4080 - length (head_fields rules journal format)) 0)))))))))))
unfolding filled head_fields
page_is rules journal format = simp (append_assoc, append-nil)

-- formats and their bytes
pub format_fits : (f : StateFormat) → format_byte f < 256
format_fits One = omega arith
format_fits Two = omega arith

pub one_format : (f g : StateFormat) → format_byte f ≡ format_byte g → f ≡ g
one_format One One e = refl
one_format Two Two e = refl
one_format One Two e = absurd (omega (arith, e))
one_format Two One e = absurd (omega (arith, e))

-- percentages, and zeros behind them
pub stages_sized : (stages : List ℕ) → length stages ≤ 4 → length (filled 4 stages) ≡ 4
unfolding filled
stages_sized stages few = length-append stages (number (4 - length stages) 0) ∙ omega (arith, length-number (4 - length stages) 0)

pub stages_front : (stages : List ℕ) → take (length stages) (filled 4 stages) ≡ stages
unfolding filled
stages_front stages = take_at stages (number (4 - length stages) 0) (length stages) refl

pub byte_small : (layout : JournalLayout) → layout_byte layout < 256
byte_small Pages = omega arith
byte_small Cells = omega arith

pub byte_is_one : (layout other : JournalLayout) → layout_byte layout ≡ layout_byte other → layout ≡ other
byte_is_one Pages Pages e = refl
byte_is_one Pages Cells e = absurd (omega (arith, e))
byte_is_one Cells Pages e = absurd (omega (arith, e))
byte_is_one Cells Cells e = refl

-- the fields read from a page
pub record ReadsPage (rules : Rules) (journal : JournalShape) (form : StateFormat) (layout format node_count bidder_count percent stage_count waivers step frames : ℕ) (stages : List ℕ) : Type 0 where
  pub format_is : format ≡ format_byte form
  pub waivers_are : waivers ≡ rules.waivers
  pub nodes : node_count ≡ length rules.nodes
  pub bidders : bidder_count ≡ length rules.bidders
  pub percent_is : percent ≡ rules.percent
  pub count : stage_count ≡ length rules.stages
  pub stages_are : stages ≡ filled 4 rules.stages
  pub step_is : step ≡ rules.step
  pub layout_is : layout ≡ layout_byte journal.layout
  pub frames_is : frames ≡ journal.frames

pub page_read : (rules : Rules) (journal : JournalShape) (form : StateFormat) → IsDefinition rules → journal.frames < 2 ^ 32 → (page m r0 r1 r2 r3 r4 r5 r6 stages r7 r7' r8 r9 r10 : List ℕ) (layout format node_count bidder_count percent stage_count waivers unused step frames : ℕ)
    → page ≡ m ++ r0 → length m ≡ 8 → r0 ≡ number 1 layout ++ r1 → r1 ≡ number 1 format ++ r2 → r2 ≡ number 1 node_count ++ r3 → r3 ≡ number 1 bidder_count ++ r4 → r4 ≡ number 1 percent ++ r5 → r5 ≡ number 1 stage_count ++ r6
    → r6 ≡ stages ++ r7 → length stages ≡ 4 → r7 ≡ number 1 waivers ++ r7' → r7' ≡ number 1 unused ++ r8 → r8 ≡ number 4 step ++ r9 → r9 ≡ number 4 frames ++ r10
    → layout < 256 → format < 256 → node_count < 256 → bidder_count < 256 → percent < 256 → stage_count < 256 → waivers < 256 → unused < 256 → step < 2 ^ 32 → frames < 2 ^ 32
    → page ≡ head_page_of rules journal form → ReadsPage rules journal form layout format node_count bidder_count percent stage_count waivers step frames stages
page_read rules journal form def small page m r0 r1 r2 r3 r4 r5 r6 stages r7 r7' r8 r9 r10 layout format node_count bidder_count percent stage_count waivers unused step frames
    e0 eight e1 e2 e3 e4 e5 e6 e7 four e8 e8' e9 e10 l1 l2 l3 l4 l5 l6 l8 l8' l9 l10 e =
    let s0 = same_text 8 m magic r0 _ eight refl (sym e0 ∙ e ∙ page_is rules journal form) in
    let s1 = same_number 1 layout (layout_byte journal.layout) r1 _ l1 (byte_small journal.layout) (sym e1 ∙ s0.1) in
    let s2 = same_number 1 format (format_byte form) r2 _ l2 (format_fits form) (sym e2 ∙ s1.1) in
    let s3 = same_number 1 node_count (length rules.nodes) r3 _ l3 (omega (arith, def.nodes.1)) (sym e3 ∙ s2.1) in
    let s4 = same_number 1 bidder_count (length rules.bidders) r4 _ l4 (omega (arith, def.bidders.1)) (sym e4 ∙ s3.1) in
    let s5 = same_number 1 percent rules.percent r5 _ l5 (omega (arith, def.percent.1)) (sym e5 ∙ s4.1) in
    let s6 = same_number 1 stage_count (length rules.stages) r6 _ l6 (omega (arith, def.stages.1)) (sym e6 ∙ s5.1) in
    let s7 = same_text 4 stages (filled 4 rules.stages) r7 _ four (stages_sized rules.stages def.stages.1) (sym e7 ∙ s6.1) in
    let w = same_number 1 waivers rules.waivers r7' _ l8 (omega (arith, def.waivers)) (sym e8 ∙ s7.1) in
    let s8 = same_number 1 unused 0 r8 _ l8' (omega arith) (sym e8' ∙ w.1) in
    let s9 = same_number 4 step rules.step r9 _ l9 (omega (arith, def.most_step)) (sym e9 ∙ s8.1) in
    let s10 = same_number 4 frames journal.frames r10 _ l10 small (sym e10 ∙ s9.1) in
    record { format_is = s2.0; waivers_are = w.0; nodes = s3.0; bidders = s4.0; percent_is = s5.0; count = s6.0; stages_are = s7.0; step_is = s9.0; layout_is = s1.0; frames_is = s10.0 }

-- the fields of page 0 are 28 bytes
fields_sized : (rules : Rules) (journal : JournalShape) (format : StateFormat) → length rules.stages ≤ 4 → length (head_fields rules journal format) ≡ 28
unfolding head_fields
fields_sized rules journal format few =
    behind_text 8 magic _ refl (behind 1 _ _ (behind 1 _ _ (behind 1 _ _ (behind 1 _ _ (behind 1 _ _ (behind 1 _ _ (behind_text 4 (filled 4 rules.stages) _ (stages_sized rules.stages few) (behind 1 _ _ (behind 1 _ _ (behind 4 _ _ (behind 4 _ _ refl)))))))))))

filled_sized : (size : ℕ) (bytes : List ℕ) → length bytes ≤ size → length (filled size bytes) ≡ size
unfolding filled
filled_sized size bytes fits = length-append bytes (number (size - length bytes) 0) ∙ omega (arith, length-number (size - length bytes) 0)

-- a page is full
pub head_page_sized : (rules : Rules) (journal : JournalShape) (format : StateFormat) → IsDefinition rules → length (head_page_of rules journal format) ≡ 4080
head_page_sized rules journal format def = filled_sized 4080 (head_fields rules journal format) (omega (arith, fields_sized rules journal format def.stages.1))

pub node_page_sized : (rules : Rules) → IsDefinition rules → length (node_page_of rules.nodes) ≡ 4096
node_page_sized rules def = filled_sized 4096 (flat_map node_of rules.nodes) (omega (arith, entries_sized node_of HasEntry 32 node_sized rules.nodes (nodes_fit rules def), def.nodes.1))

-- the pages that a head's bytes are cut into
pub record Cut (rules : Rules) (journal : JournalShape) (format : StateFormat) (page nodes bidders : List ℕ) : Type 0 where
  pub head : page ≡ head_page_of rules journal format
  pub node_page : nodes ≡ node_page_of rules.nodes
  pub bidder_page : bidders ≡ bidder_page_of rules.bidders

pub cut_head : (rules : Rules) (journal : JournalShape) (format : StateFormat) → IsDefinition rules → (bytes page rest nodes bidders : List ℕ) → bytes ≡ page ++ rest → length page ≡ 4080 → rest ≡ nodes ++ bidders → length nodes ≡ 4096 → bytes ≡ head_of rules journal format
    → Cut rules journal format page nodes bidders
unfolding head_of
cut_head rules journal format def bytes page rest nodes bidders cut size cut_rest node_size e =
    let s0 = same_text 4080 page (head_page_of rules journal format) rest _ size (head_page_sized rules journal format def) (sym cut ∙ e) in
    let s1 = same_text 4096 nodes (node_page_of rules.nodes) bidders _ node_size (node_page_sized rules def) (sym cut_rest ∙ s0.1) in
    record { head = s0.0; node_page = s1.0; bidder_page = s1.1 ∙ append-nil (bidder_page_of rules.bidders) }

pub same_head : {d e : Rules} {p q : JournalShape} → d ≡ e → p ≡ q → ◌≡◌ {A = Head} (record { definition = d; journal = p }) (record { definition = e; journal = q })
same_head e f = cc

-- the layout's byte stands behind the magic
byte_is : (layout : JournalLayout) → 0 * 256 + layout_byte layout / 256 ^ 0 % 256 ≡ layout_byte layout
byte_is Pages = refl
byte_is Cells = refl

byte_there : (rules : Rules) (journal : JournalShape) (format : StateFormat) → leading 1 (rest (length magic) (head_of rules journal format)) ≡ layout_byte journal.layout
unfolding head_of head_fields filled number leading rest value_from
byte_there rules journal format = byte_is journal.layout

pub layout_named : (bytes : List ℕ) (head : Head) → SpellsHead bytes head → leading 1 (rest (length magic) bytes) ≡ layout_byte head.journal.layout
layout_named bytes head (format, spells) = ap (λ (l : List ℕ). leading 1 (rest (length magic) l)) spells.spelled ∙ byte_there head.definition head.journal format
