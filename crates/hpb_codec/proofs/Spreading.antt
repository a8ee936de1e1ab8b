-- Cells hold a batch's body, part by part.
use Rattle.std.proofs.Common.{◌≡◌, ℕ, zero, suc, ◌+◌, ◌*◌, ◌-◌, ◌≤◌, List, [], ◌++◌, length, take, drop, refl, sym, ap, ◌∙◌, arith, append_assoc, length-append, length-drop}
use Rattle.std.specs.List.{flat_map}
use Rattle.std.proofs.lemmas.List.{append-nil, take_at, drop_at, drop-drop, take-take, drop-take, take-append-drop, length-take-le, replicate-append-replicate}
use Rattle.std.proofs.Math.Seq.{take-add, take-append-add}
use Rattle.hpb_rules.specs.Tree.{Rules}
use Rattle.hpb_codec.specs.Numbers.{number, filled, leading, rest, before, value}
use Rattle.hpb_codec.specs.Sizes.{length-number, behind}
use Rattle.hpb_codec.specs.Records.{record_of}
use Rattle.hpb_codec.specs.declared.batch.Batch.{Batch}
use Rattle.hpb_codec.specs.Batches.{batch_of, batch_fields, IsBatch, SpellsBatch}
use Rattle.hpb_codec.specs.Cells.{cells_of, further_cells, further_in, further_of, gathered, size_of_cells, BeginsCells}
use Rattle.hpb_codec.specs.Laws.{CellsAreFewest, CellsAreOne, CellsBegin}
use Rattle.hpb_codec.proofs.Batches.{body_is, fields_sized, records_sized}
use Rattle.hpb_codec.proofs.Numbers.{before_none, leading-number, rest-number, number-zero}
use Rattle.hpb_codec.proofs.OneToOne.{one_batch}

-- the bytes that a cell begins with
abbrev cell_head : ℕ → ℕ → List ℕ
cell_head index cell = number 8 index ++ (number 1 cell ++ number 7 0)

pub cell_is : (index cell cells : ℕ) (body : List ℕ) → further_of index cell (suc cells) body ≡ cell_head index cell ++ (before 496 body ++ further_of index (suc cell) cells (rest 496 body))
unfolding further_of
cell_is index cell cells body = simp (append_assoc, append-nil)

-- the parts of the body in the cells behind the first
in_further : (cells index cell : ℕ) (body back : List ℕ) → 496 * cells ≤ length body → further_in cells (further_of index cell cells body ++ back) ≡ take (496 * cells) body
unfolding further_in further_of before rest
in_further zero index cell body back long = refl
in_further (suc cells) index cell body back long =
    let head = cell_head index cell in
    let part = take 496 body in
    let more = further_of index (suc cell) cells (drop 496 body) ++ back in
    let whole : further_of index cell (suc cells) body ++ back ≡ head ++ (part ++ more) = ap (λ (x : List ℕ). x ++ back) (cell_is index cell cells body) ∙ simp append_assoc in
    let behind_head : drop 16 (further_of index cell (suc cells) body ++ back) ≡ part ++ more = ap (drop 16) whole ∙ drop_at head (part ++ more) 16 (behind 8 _ _ (behind 1 _ _ (length-number 7 0))) in
    let sized : length part ≡ 496 = length-take-le 496 body (omega (arith, long)) in
    let here : take 496 (drop 16 (further_of index cell (suc cells) body ++ back)) ≡ part = ap (take 496) behind_head ∙ take_at part more 496 sized in
    let there : drop 496 (drop 16 (further_of index cell (suc cells) body ++ back)) ≡ more = ap (drop 496) behind_head ∙ drop_at part more 496 sized in
    let rest_is : further_in cells (drop 496 (drop 16 (further_of index cell (suc cells) body ++ back))) ≡ take (496 * cells) (drop 496 body) = ap (further_in cells) there ∙ in_further cells index (suc cell) (drop 496 body) back (omega (arith, long, length-drop 496 body)) in
    let all : 496 * suc cells ≡ 496 + 496 * cells = omega arith in
    ap (λ (x : List ℕ). x ++ further_in cells (drop 496 (drop 16 (further_of index cell (suc cells) body ++ back)))) here ∙ ap (λ (x : List ℕ). part ++ x) rest_is
    ∙ sym (take-add 496 (496 * cells) body) ∙ ap (λ (n : ℕ). take n body) (sym all)

-- zero bytes behind zero bytes
zeros_join : (a b : ℕ) → number a 0 ++ number b 0 ≡ number (a + b) 0
zeros_join a b = rw (number-zero a, number-zero b, number-zero (a + b)) (replicate-append-replicate a b 0)

zeros_cut : (a c : ℕ) → a ≤ c → take a (number c 0) ≡ number a 0
zeros_cut a c le =
    let split : c ≡ a + (c - a) = omega (arith, le) in
    ap (λ (n : ℕ). take a (number n 0)) split ∙ ap (take a) (sym (zeros_join a (c - a))) ∙ take_at (number a 0) (number (c - a) 0) a (length-number a 0)

-- filling the first bytes of a filled text gives the same text
filled_again : (size : ℕ) (text : List ℕ) (k : ℕ) → length text ≤ k → k ≤ size → filled size (take k (filled size text)) ≡ filled size text
unfolding filled
filled_again size text k fits le =
    let n = length text in
    let cut : take k (text ++ number (size - n) 0) ≡ text ++ number (k - n) 0 =
    ap (λ (m : ℕ). take m (text ++ number (size - n) 0)) (omega (arith, fits)) ∙ take-append-add text (number (size - n) 0) (k - n)
    ∙ ap (λ (x : List ℕ). text ++ x) (zeros_cut (k - n) (size - n) (omega (arith, fits, le))) in
    let long : size - length (text ++ number (k - n) 0) ≡ size - k = omega (arith, fits, length-append text (number (k - n) 0), length-number (k - n) 0) in
    let sum : (k - n) + (size - k) ≡ size - n = omega (arith, fits, le) in
    ap (λ (x : List ℕ). x ++ number (size - length x) 0) cut ∙ ap (λ (m : ℕ). (text ++ number (k - n) 0) ++ number m 0) long
    ∙ append_assoc text (number (k - n) 0) (number (size - k) 0) ∙ ap (λ (x : List ℕ). text ++ x) (zeros_join (k - n) (size - k) ∙ ap (λ (m : ℕ). number m 0) sum)

filled_sized : (size : ℕ) (text : List ℕ) → length text ≤ size → length (filled size text) ≡ size
unfolding filled
filled_sized size text fits = length-append text (number (size - length text) 0) ∙ omega (arith, fits, length-number (size - length text) 0)

-- how many records the cells have room for
pub enough : (count : ℕ) → count ≤ 64 → (further_cells count ≤ 2) × (24 + count * 16 ≤ 488 + 496 * further_cells count)
unfolding further_cells
enough count most = (omega (arith, most), omega (arith, most))

-- fewer cells have no room for them
pub cells_are_fewest : CellsAreFewest
unfolding further_cells
cells_are_fewest count further = (λ less. omega (arith, less), λ fits. omega (arith, fits))

-- Bytes that begin with the cells of a batch.
module _ (rules : Rules) (batch : Batch) (is : IsBatch rules batch) (bytes back : List ℕ) (begins : bytes ≡ cells_of batch ++ back) where
  abbrev body : List ℕ
  body = batch_of batch

  abbrev count : ℕ
  count = length batch.commands

  abbrev fields : List ℕ
  fields = batch_fields batch.index batch.first count (flat_map record_of batch.commands)

  short : length fields ≡ 24 + count * 16
  short = omega (arith, fields_sized batch.index batch.first count (flat_map record_of batch.commands), records_sized batch.commands)

  body_sized : length body ≡ 4080
  body_sized = filled_sized 4080 fields (omega (arith, short, is.most))

  abbrev further : List ℕ
  further = further_of batch.index 1 (further_cells count) (drop 488 body)

  whole : bytes ≡ take 488 body ++ (number 8 0 ++ (further ++ back))
  unfolding cells_of before rest
  whole = begins ∙ simp (append_assoc, append-nil)

  first_sized : length (take 488 body) ≡ 488
  first_sized = length-take-le 488 body (omega (arith, body_sized))

  first_is : take 488 bytes ≡ take 488 body
  first_is = ap (take 488) whole ∙ take_at (take 488 body) (number 8 0 ++ (further ++ back)) 488 first_sized

  behind_is : drop 8 (drop 488 bytes) ≡ further ++ back
  behind_is =
      ap (drop 8) (ap (drop 488) whole ∙ drop_at (take 488 body) (number 8 0 ++ (further ++ back)) 488 first_sized)
      ∙ drop_at (number 8 0) (further ++ back) 8 (length-number 8 0)

  -- The parts of the body in the cells, with zeros behind them, are the body.
  pub gathered_is : filled 4080 (gathered (further_cells count) bytes) ≡ body
  unfolding gathered before rest
  gathered_is =
      let room = enough count is.most in
      let long : 496 * further_cells count ≤ length (drop 488 body) = omega (arith, room.0, length-drop 488 body, body_sized) in
      let behind_parts : further_in (further_cells count) (drop 8 (drop 488 bytes)) ≡ take (496 * further_cells count) (drop 488 body) =
      ap (further_in (further_cells count)) behind_is ∙ in_further (further_cells count) batch.index 1 (drop 488 body) back long in
      ap (filled 4080) (ap (λ (x : List ℕ). x ++ further_in (further_cells count) (drop 8 (drop 488 bytes))) first_is ∙ ap (λ (x : List ℕ). take 488 body ++ x) behind_parts
      ∙ sym (take-add 488 (496 * further_cells count) body))
      ∙ filled_again 4080 fields (488 + 496 * further_cells count) (omega (arith, short, room.1)) (omega (arith, room.0))

  -- The first 488 bytes are the body's.
  front_is : (k n : ℕ) → k + n ≤ 488 → take n (drop k bytes) ≡ take n (drop k body)
  front_is k n inside =
      let m = 488 - k in
      let all : k + m ≡ 488 = omega (arith, inside) in
      let cut : (l : List ℕ) → take n (drop k l) ≡ take n (drop k (take 488 l)) =
      λ l. sym (take-take n m (drop k l) (omega (arith, inside))) ∙ ap (take n) (sym (drop-take k m l) ∙ ap (λ (j : ℕ). drop k (take j l)) all) in
      cut bytes ∙ ap (λ (l : List ℕ). take n (drop k l)) first_is ∙ sym (cut body)

  abbrev behind_count : List ℕ
  behind_count = number 6 0 ++ (flat_map record_of batch.commands ++ number (4056 - count * 16) 0)

  fields_are : body ≡ number 8 batch.index ++ (number 8 batch.first ++ (number 2 count ++ behind_count))
  fields_are = body_is batch.index batch.first count (flat_map record_of batch.commands) (records_sized batch.commands)

  pub index_is : leading 8 bytes ≡ batch.index
  unfolding leading
  index_is = ap value (front_is 0 8 (omega arith)) ∙ ap (leading 8) fields_are ∙ leading-number 8 batch.index _ is.index

  pub count_is : leading 2 (rest 16 bytes) ≡ count
  unfolding leading rest
  count_is =
      let behind_both : drop 16 body ≡ number 2 count ++ behind_count =
      sym (drop-drop 8 8 body) ∙ ap (λ (l : List ℕ). drop 8 (drop 8 l)) fields_are ∙ ap (drop 8) (rest-number 8 batch.index _) ∙ rest-number 8 batch.first _ in
      ap value (front_is 16 2 (omega arith)) ∙ ap (leading 2) behind_both ∙ leading-number 2 count behind_count (omega (arith, is.most))

-- Bytes that begin with a batch's cells are those cells and the bytes behind them.
pub behind_cells : (rules : Rules) (bytes : List ℕ) (batch : Batch) → BeginsCells rules bytes batch → bytes ≡ cells_of batch ++ rest (size_of_cells (length batch.commands)) bytes
unfolding before rest
behind_cells rules bytes batch begins =
    sym (take-append-drop (size_of_cells (length batch.commands)) bytes) ∙ ap (λ (l : List ℕ). l ++ drop (size_of_cells (length batch.commands)) bytes) begins.spelled

same_batch : (rules : Rules) (bytes : List ℕ) (batch other : Batch) → IsBatch rules batch → IsBatch rules other → (back more : List ℕ) → bytes ≡ cells_of batch ++ back → bytes ≡ cells_of other ++ more → batch ≡ other
same_batch rules bytes batch other a b back more e f =
    let counts : length batch.commands ≡ length other.commands = sym (count_is rules batch a bytes back e) ∙ count_is rules other b bytes more f in
    one_batch rules batch other a b
    (sym (gathered_is rules batch a bytes back e) ∙ ap (λ (n : ℕ). filled 4080 (gathered (further_cells n) bytes)) counts ∙ gathered_is rules other b bytes more f)

pub cells_are_one : CellsAreOne
cells_are_one rules = record {
  one_spelling = λ batch bytes others a b. a.spelled ∙ sym b.spelled;
  one_value = λ bytes batch other a b. same_batch rules bytes batch other a.is b.is [] [] (a.spelled ∙ sym (append-nil (cells_of batch))) (b.spelled ∙ sym (append-nil (cells_of other)));
}

pub cells_begin : CellsBegin
cells_begin = record {
  one = λ rules bytes batch other a b. same_batch rules bytes batch other a.is b.is _ _ (behind_cells rules bytes batch a) (behind_cells rules bytes other b);
  indexed = λ rules bytes batch a. index_is rules batch a.is bytes _ (behind_cells rules bytes batch a);
}

-- One more cell was written.
pub cell_written : (o0 o1 o2 o3 o4 body part after all : List ℕ) (a0 a1 a2 a3 a4 index n cell next left more : ℕ) → before a1 o1 ≡ before a0 o0 ++ number 8 index → before a2 o2 ≡ before a1 o1 ++ number 1 n → before a3 o3 ≡ before a2 o2 ++ number 7 0
    → before a4 o4 ≡ before a3 o3 ++ part → part ≡ before 496 body → after ≡ rest 496 body → n ≡ cell → next ≡ suc cell → left ≡ suc more → before a0 o0 ++ further_of index cell left body ≡ all
    → before a4 o4 ++ further_of index next more after ≡ all
cell_written o0 o1 o2 o3 o4 body part after all a0 a1 a2 a3 a4 index n cell next left more e1 e2 e3 e4 here behind_it is_cell is_next is_left e =
    let front = before a0 o0 in
    let back = further_of index (suc cell) more (rest 496 body) in
    let one : ((((front ++ number 8 index) ++ number 1 cell) ++ number 7 0) ++ before 496 body) ++ back ≡ front ++ (cell_head index cell ++ (before 496 body ++ back)) = simp append_assoc in
    rw (e4, e3, e2, e1, here, behind_it, is_cell, is_next) (one ∙ ap (λ (x : List ℕ). front ++ x) (sym (cell_is index cell more body)) ∙ ap (λ (k : ℕ). front ++ further_of index cell k body) (sym is_left) ∙ e)

-- All cells were written.
pub cells_written : (text all body : List ℕ) (index cell left : ℕ) → left ≡ 0 → text ++ further_of index cell left body ≡ all → text ≡ all
unfolding further_of
cells_written text all body index cell left none e = sym (append-nil text) ∙ ap (λ (k : ℕ). text ++ further_of index cell k body) (sym none) ∙ e

pub all_written : (old o1 o2 o3 first back body : List ℕ) (a1 a2 a3 cells : ℕ) (batch : Batch) → before a1 o1 ≡ before 0 old ++ first → before a2 o2 ≡ before a1 o1 ++ number 8 0 → before a3 o3 ≡ before a2 o2 ++ further_of batch.index 1 cells back
    → first ≡ before 488 body → back ≡ rest 488 body → body ≡ batch_of batch → cells ≡ further_cells (length batch.commands) → before a3 o3 ≡ cells_of batch
unfolding cells_of
all_written old o1 o2 o3 first back body a1 a2 a3 cells batch e1 e2 e3 is_first is_back is_body is_cells = rw (e3, e2, e1, before_none old, is_first, is_back, is_body, is_cells) (simp (append_assoc, append-nil))

-- The fields that a reader finds in bytes that begin with a batch's cells.
pub count_found : (rules : Rules) (bytes : List ℕ) (batch : Batch) → BeginsCells rules bytes batch → (n m : ℕ) (counted : List ℕ) → counted ≡ rest 16 bytes → n ≡ leading 2 counted → m ≡ n → m ≡ length batch.commands
count_found rules bytes batch begins n m counted there value same =
    same ∙ value ∙ ap (leading 2) there ∙ count_is rules batch begins.is bytes _ (behind_cells rules bytes batch begins)

pub body_found : (rules : Rules) (bytes : List ℕ) (batch : Batch) → BeginsCells rules bytes batch → (count cells : ℕ) (body : List ℕ) → count ≡ length batch.commands → cells ≡ further_cells count → body ≡ filled 4080 (gathered cells bytes)
    → SpellsBatch rules body batch
body_found rules bytes batch begins records cells found counted are gathers = record {
  is = begins.is;
  spelled = gathers ∙ ap (λ (k : ℕ). filled 4080 (gathered k bytes)) (are ∙ ap further_cells counted) ∙ gathered_is rules batch begins.is bytes _ (behind_cells rules bytes batch begins);
}

pub same_cells : (size : ℕ) (out bytes : List ℕ) (batch : Batch) → size ≡ size_of_cells (length batch.commands) → take size out ≡ take size bytes → before size out ≡ cells_of batch → before (size_of_cells (length batch.commands)) bytes ≡ cells_of batch
unfolding before
same_cells size out bytes batch sized same written = ap (λ (k : ℕ). take k bytes) (sym sized) ∙ sym same ∙ written

pub spelled_again : (rules : Rules) (size : ℕ) (out bytes : List ℕ) (batch other : Batch) → batch ≡ other → size ≡ size_of_cells (length batch.commands) → before size out ≡ cells_of batch → BeginsCells rules bytes other → take size out ≡ take size bytes
unfolding before
spelled_again rules size out bytes batch other same sized written begins =
    written ∙ ap cells_of same ∙ sym begins.spelled ∙ ap (λ (k : ℕ). take k bytes) (ap (λ (b : Batch). size_of_cells (length b.commands)) (sym same) ∙ sym sized)

-- One more part was gathered.
pub part_gathered : (o0 o1 part parts left_bytes after all : List ℕ) (a0 a1 left more : ℕ) → before a1 o1 ≡ before a0 o0 ++ part → part ≡ before 496 parts → parts ≡ rest 16 left_bytes → after ≡ rest 496 parts → left ≡ suc more
    → before a0 o0 ++ further_in left left_bytes ≡ all → before a1 o1 ++ further_in more after ≡ all
unfolding further_in
part_gathered o0 o1 part parts left_bytes after all a0 a1 left more e here cut behind_it is_left so_far =
    let front = before a0 o0 in
    let back = further_in more (rest 496 (rest 16 left_bytes)) in
    let one : (front ++ before 496 (rest 16 left_bytes)) ++ back ≡ front ++ (before 496 (rest 16 left_bytes) ++ back) = simp append_assoc in
    rw (e, here, behind_it, cut) (one ∙ ap (λ (k : ℕ). front ++ further_in k left_bytes) (sym is_left) ∙ so_far)

pub none_gathered : (old o1 first behind_first left_bytes bytes : List ℕ) (a1 left cells : ℕ) → before a1 o1 ≡ before 0 old ++ first → first ≡ before 488 bytes → behind_first ≡ rest 488 bytes → left_bytes ≡ rest 8 behind_first → left ≡ cells
    → before a1 o1 ++ further_in left left_bytes ≡ gathered cells bytes
unfolding gathered
none_gathered old o1 first behind_first left_bytes bytes a1 left cells e is_first is_behind is_left all = rw (e, before_none old, is_first, is_left, is_behind, all) refl

pub all_gathered : (text all bytes : List ℕ) (left : ℕ) → left ≡ 0 → text ++ further_in left bytes ≡ all → text ≡ all
unfolding further_in
all_gathered text all bytes left none e = sym (append-nil text) ∙ ap (λ (k : ℕ). text ++ further_in k bytes) (sym none) ∙ e
