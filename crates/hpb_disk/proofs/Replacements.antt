-- What a crash may leave of a record and of its replacement.
use Rattle.std.proofs.Common.{◌≡◌, inl, inr, ⊎_elim, ℕ, ◌+◌, ◌*◌, ◌≤◌, List, length, sym, ◌∙◌, subst, arith}
use Rattle.hpb_disk.specs.Device.{Device, IsSettled, LeavesOnly}
use Rattle.hpb_disk.specs.Traces.{length-put, put_is_torn}
use Rattle.hpb_disk.specs.Gates.{open_byte, HasClosedGate}
use Rattle.hpb_disk.specs.Images.{part, put, Torn, TornFrom, Within, Only}
use Rattle.hpb_disk.specs.Replacing.{HasRecord, HasEither, HasSameRest}
use Rattle.hpb_disk.proofs.GateBytes.{open_or_closed}
use Rattle.hpb_disk.proofs.Regions.{part_put, part_elsewhere, rest_after}
use Rattle.hpb_disk.proofs.Runs.{leaves_join, leaves_within}

-- An image with a record behind its closed gate, and room for another.
module _ (bytes old : List ℕ) (room : 1 + 2 * length bytes ≤ length old) (closed : HasClosedGate 0 old) where
  abbrev size : ℕ
  size = length bytes

  abbrev was : List ℕ
  was = part 1 size old

  abbrev written : List ℕ
  written = put (1 + size) bytes old

  fits : 1 + size + size ≤ length old
  fits = omega arith

  -- One of the two records counts, and the bytes behind both places are as before.
  abbrev pub Kept : List ℕ → Type 0
  Kept image = HasEither size was bytes image × HasSameRest size old image

  -- The old record counts while the other place is torn.
  pub torn_behind : (image : List ℕ) → Torn (1 + size) size old image → Kept image
  torn_behind image torn =
      let gate : part 0 1 image ≡ part 0 1 old = part_elsewhere 0 1 (1 + size) size old image torn (inl (omega arith)) in
      (inl (inl (λ is_open. closed (sym gate ∙ is_open), part_elsewhere 1 size (1 + size) size old image torn (inl (omega arith)))), rest_after (1 + 2 * size) (1 + size) size old image torn (omega arith))

  new_place : part (1 + size) size written ≡ bytes
  new_place = part_put (1 + size) bytes old fits

  old_place : part 1 size written ≡ was
  old_place = part_elsewhere 1 size (1 + size) size old written (put_is_torn (1 + size) bytes old fits) (inl (omega arith))

  -- While the gate is torn, one record counts or the other.
  pub torn_gate : (image : List ℕ) → Torn 0 1 written image → Kept image
  torn_gate image torn =
      let one : part 1 size image ≡ was = part_elsewhere 1 size 0 1 written image torn (inr (omega arith)) ∙ old_place in
      let other : part (1 + size) size image ≡ bytes = part_elsewhere (1 + size) size 0 1 written image torn (inr (omega arith)) ∙ new_place in
      let rest : HasSameRest size old image =
      rest_after (1 + 2 * size) 0 1 written image torn (omega arith) ∙ rest_after (1 + 2 * size) (1 + size) size old written (put_is_torn (1 + size) bytes old fits) (omega arith) in
      (⊎_elim (λ is_open. inr (inr (is_open, other))) (λ is_closed. inl (inl (is_closed, one))) (open_or_closed 0 image), rest)

  -- Once the gate is open, the new record counts.
  pub opened : HasRecord size bytes (put 0 open_byte written)
  opened =
      let inside : 0 + length open_byte ≤ length written = omega (arith, length-put (1 + size) bytes old fits) in
      inr (part_put 0 open_byte written inside, part_elsewhere (1 + size) size 0 1 written (put 0 open_byte written) (put_is_torn 0 open_byte written inside) (inr (omega arith)) ∙ new_place)

-- The calls, one after another, on a device without pending writes.
module _ (bytes : List ℕ) (old : Device) (room : 1 + 2 * length bytes ≤ length old.seen) (closed : HasClosedGate 0 old.seen) (settled : IsSettled old) where
  -- From the first device to the second, a crash leaves only such images.
  abbrev pub Leaves : Device → Device → Type 0
  Leaves here next = LeavesOnly here next (Kept bytes old.seen room closed)

  after_write : {next : Device} → LeavesOnly old next (TornFrom (1 + length bytes) (length bytes) old.may_leave) → Leaves old next
  after_write crash = leaves_within
      (λ image torn. torn_behind bytes old.seen room closed image (subst (λ (from : List ℕ). Torn (1 + length bytes) (length bytes) from image) (settled torn.0 torn.1) torn.2)) crash

  pub after_sync : {here next : Device} → Leaves old here → LeavesOnly here next here.may_leave → Leaves old next
  after_sync so_far crash = leaves_join so_far (leaves_within so_far.after crash)

  after_gate : {here next : Device} → Leaves old here → Only (written bytes old.seen room closed) here.may_leave → LeavesOnly here next (TornFrom 0 1 here.may_leave) → Leaves old next
  after_gate so_far only crash = leaves_join so_far
      (leaves_within (λ image torn. torn_gate bytes old.seen room closed image (subst (λ (from : List ℕ). Torn 0 1 from image) (only torn.0 torn.1) torn.2)) crash)

  -- The write to the other place, a sync, and the opening of the gate.
  pub after_opening : {one two three : Device} → LeavesOnly old one (TornFrom (1 + length bytes) (length bytes) old.may_leave) → one.seen ≡ written bytes old.seen room closed
      → LeavesOnly one two one.may_leave → Only one.seen two.may_leave → LeavesOnly two three (TornFrom 0 1 two.may_leave) → Leaves old three
  after_opening write is sync only gate = after_gate (after_sync (after_write write) sync) (λ image may. only image may ∙ is) gate

  -- After the last sync a crash leaves only images in which the new record counts.
  pub stands_after : (here : Device) (opened_image : List ℕ) → Only opened_image here.may_leave → opened_image ≡ put 0 open_byte (written bytes old.seen room closed)
      → Within here.may_leave (HasRecord (length bytes) bytes)
  stands_after here opened_image only is image may = subst (HasRecord (length bytes) bytes) (sym (only image may ∙ is)) (opened bytes old.seen room closed)
