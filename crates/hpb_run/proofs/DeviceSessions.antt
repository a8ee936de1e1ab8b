-- A session on a device: it writes the answers to its input.
use Rattle.std.proofs.Common.{◌≡◌, false, true, ⊎_elim, inl, inr}
use Rattle.std.specs.Prelude.{Ok, Err}
use Rattle.hpb_run.specs.DeviceLaws.{DeviceSessionIsText}
use Rattle.hpb_run.proofs.DeviceTexts.{input_told}
use Rattle.hpb_run.proofs.Requests.{same_stays}

pub device_session_is_text : DeviceSessionIsText
device_session_is_text budget before after old new (Ok done) at s =
    let t = input_told old new s.taken s.text at s.answers in (
      record {
        input = s.taken;
        text = s.text;
        read = s.read;
        ended = ⊎_elim (λ end. end) (λ ended. absurd (let no : false ≡ true = ended in cc)) s.ended;
        within = s.within;
        written = s.written;
        answers = t.told;
        by_rules = t.whole;
      },
      t.stays,
    )
device_session_is_text budget before after old new (Err fault) at (inl never) = (inl never, same_stays old new never.2)
device_session_is_text budget before after old new (Err fault) at (inr s) =
    let t = input_told old new s.done s.text at s.answers in (
      inr (record {
        taken = s.taken;
        done = s.done;
        rest = s.rest;
        text = s.text;
        sent = s.sent;
        read = s.read;
        within = s.within;
        parts = s.parts;
        whole = s.whole;
        written = s.written;
        front = s.front;
        left = s.left;
        no_line = s.no_line;
        answers = t.told;
        by_rules = t.whole;
      }),
      t.stays,
    )
