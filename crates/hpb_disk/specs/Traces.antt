-- The laws of a device hold for one whose state is made by its calls.
use Rattle.std.specs.Prelude.{if◌then◌else◌}
use Rattle.std.proofs.Common.{◌≡◌, inl, inr, ℕ, ◌+◌, ◌≤◌, nat_le, Bool, true, false, List, [], ◌∷◌, ◌++◌, length, take, drop, refl, sym, ◌∙◌, ap, subst, append_assoc, length-append, length-drop}
use Rattle.std.proofs.Math.Nat.{le_trans, le-add_right, add-sub_of_le, not-suc-le_self}
use Rattle.std.proofs.lemmas.Bool.{leb-true}
use Rattle.std.proofs.lemmas.List.{take_at, drop_at, length-take-le}
use Rattle.hpb_disk.specs.Asked.{asked_of}
use Rattle.hpb_disk.specs.Calls.{Call, after_write, calls_of, failures_of, seen_after, seen_of, left_after, left_of, since_of}
use Rattle.hpb_disk.specs.Calls.Call.{read, wrote, synced, failed, write_failed}
use Rattle.hpb_disk.specs.Device.{Device}
use Rattle.hpb_disk.specs.Events.{Event}
use Rattle.hpb_disk.specs.Images.{put, Torn}

module _ (at : ℕ) (bytes image : List ℕ) (fits : at + length bytes ≤ length image) where
  front : length (take at image) ≡ at
  front = length-take-le at image (le_trans (le-add_right at (length bytes)) fits)

  front_with_bytes : length (take at image ++ bytes) ≡ at + length bytes
  front_with_bytes = length-append (take at image) bytes ∙ ap (λ (n : ℕ). n + length bytes) front

  pub length-put : length (put at bytes image) ≡ length image
  length-put =
      length-append (take at image ++ bytes) (drop (at + length bytes) image)
      ∙ ap (λ (n : ℕ). n + length (drop (at + length bytes) image)) front_with_bytes
      ∙ ap (λ (n : ℕ). at + length bytes + n) (length-drop (at + length bytes) image)
      ∙ add-sub_of_le fits

  -- A put at an offset tears the image only there.
  pub put_is_torn : Torn at (length bytes) image (put at bytes image)
  put_is_torn = record {
    before = ap (λ (l : List ℕ). take at l) (append_assoc (take at image) bytes (drop (at + length bytes) image)) ∙ take_at (take at image) (bytes ++ drop (at + length bytes) image) at front;
    after = drop_at (take at image ++ bytes) (drop (at + length bytes) image) (at + length bytes) front_with_bytes;
    size = length-put;
  }

pub torn_self : (at count : ℕ) (image : List ℕ) → Torn at count image image
torn_self at count image = record { before = refl; after = refl; size = refl }

pub write_is_torn : (at : ℕ) (bytes image : List ℕ) → Torn at (length bytes) image (after_write at bytes image)
write_is_torn at bytes image = by_test (nat_le (at + length bytes) (length image)) (leb-true (at + length bytes) (length image))
  where
    by_test : (test : Bool) → (test ≡ true → at + length bytes ≤ length image) → Torn at (length bytes) image (if test then put at bytes image else image)
    by_test true fits = put_is_torn at bytes image (fits refl)
    by_test false fits = torn_self at (length bytes) image

seen_stays_after : (call : Call) (seen : List ℕ) (left : List ℕ → Type 0) → left seen → left_after call seen left (seen_after call seen)
seen_stays_after read seen left has = has
seen_stays_after (wrote at bytes) seen left has = (seen, has, write_is_torn at bytes seen)
seen_stays_after synced seen left has = refl
seen_stays_after failed seen left has = has
seen_stays_after (write_failed at bytes) seen left has = (seen, has, torn_self at (length bytes) seen)

-- A crash may leave the bytes that a read gives.
pub seen_may_stay : (first : List ℕ) (calls : List Call) → left_of first calls (seen_of first calls)
seen_may_stay first [] = refl
seen_may_stay first (call ∷ calls) = seen_stays_after call (seen_of first calls) (left_of first calls) (seen_may_stay first calls)

pub shown_may_stay : (first : List ℕ) (calls : List Call) (shown : List ℕ) → shown ≡ seen_of first calls → left_of first calls shown
shown_may_stay first calls shown is = subst (left_of first calls) (sym is) (seen_may_stay first calls)

sized_after : (call : Call) (seen : List ℕ) (left : List ℕ → Type 0) → ((image : List ℕ) → left image → length image ≡ length seen)
    → (image : List ℕ) → left_after call seen left image → length image ≡ length (seen_after call seen)
sized_after read seen left same image now = same image now
sized_after (wrote at bytes) seen left same image now = now.2.size ∙ same now.0 now.1 ∙ sym ((write_is_torn at bytes seen).size)
sized_after synced seen left same image now = ap length now
sized_after failed seen left same image now = same image now
sized_after (write_failed at bytes) seen left same image now = now.2.size ∙ same now.0 now.1

-- The length never changes.
pub sized : (first : List ℕ) (calls : List Call) (image : List ℕ) → left_of first calls image → length image ≡ length (seen_of first calls)
sized first [] image now = ap length now
sized first (call ∷ calls) image now = sized_after call (seen_of first calls) (left_of first calls) (sized first calls) image now

pub shown_sized : (first : List ℕ) (calls : List Call) (shown image : List ℕ) → shown ≡ seen_of first calls → left_of first calls image → length image ≡ length shown
shown_sized first calls shown image is now = sized first calls image now ∙ sym (ap length is)

-- The present is one of the times since an earlier moment.
pub counts_now : (first : List ℕ) (calls : List Call) (moment : ℕ) (image : List ℕ) → left_of first calls image → since_of first calls moment image
counts_now first [] moment image now = now
counts_now first (call ∷ calls) moment image now = inl now

-- Since the present moment there is no other time.
pub only_now : (first : List ℕ) (calls : List Call) (image : List ℕ) → since_of first calls (length calls) image → left_of first calls image
only_now first [] image left = left
only_now first (call ∷ calls) image (inl now) = now
only_now first (call ∷ calls) image (inr earlier) = absurd (not-suc-le_self (length calls) earlier.0)

-- The device that held an image at first and had the calls of a trace since. A read gives the bytes that these made.
abbrev pub traced : (first : List ℕ) (events : List Event) (shown : List ℕ) → shown ≡ seen_of first (calls_of events) → Device
traced first events shown is = record {
  seen = shown;
  may_leave = left_of first (calls_of events);
  moment = length (calls_of events);
  left_since = since_of first (calls_of events);
  failures = failures_of (calls_of events);
  asked = asked_of events;
  seen_may_stay = shown_may_stay first (calls_of events) shown is;
  sized = λ image left. shown_sized first (calls_of events) shown image is left;
  counts_now = λ moment image le now. counts_now first (calls_of events) moment image now;
  only_now = only_now first (calls_of events);
}
