-- The value of a device that is made to fail.
use Rattle.std.specs.Prelude.{ℕ, ◌+◌, ◌-◌, length}
use Rattle.std.proofs.Math.Nat.{sub-le}
use Rattle.hpb_disk.specs.declared.disk.Disk.{Ghosts}
use Rattle.hpb_disk.specs.declared.faulty.FaultyDisk.{FaultyDisk}
use Rattle.hpb_disk.specs.declared.faulty.Faults.{Ghosts as FaultsGhosts}
use Rattle.hpb_disk.specs.Asked.{asked_of}
use Rattle.hpb_disk.specs.Behind.{now_behind}
use Rattle.hpb_disk.specs.Device.{Device}
use Rattle.hpb_disk.specs.Faults.{faults_of, passed_since}

module _ {D F : Type 0} {disk : Ghosts D} {faults : FaultsGhosts F} where
  -- The value of the device that its calls are passed on to.
  abbrev pub inner : FaultyDisk D F disk faults → D
  inner faulty = faulty.inner

  -- The device behind it.
  abbrev pub behind : FaultyDisk D F disk faults → Device
  behind faulty = disk.device faulty.inner

  -- The number of the first call that fails by itself.
  abbrev pub fault : FaultyDisk D F disk faults → ℕ
  fault faulty = faulty.fault

  -- How many calls it had.
  abbrev pub calls : FaultyDisk D F disk faults → ℕ
  calls faulty = length faulty.trace.events

  -- How many of them it made fail by itself.
  abbrev pub own_faults : FaultyDisk D F disk faults → ℕ
  own_faults faulty = faults_of faulty.trace.events

  -- Its member `device`. A read gives the bytes that it gives on the device behind, and a crash now may leave the images
  -- that it may leave of that device. The moments are those of that device, except for the calls that weren't passed on.
  -- Its failures are those of that device and its own. It notes itself the calls that it was asked for.
  abbrev pub faulty_device : FaultyDisk D F disk faults → Device
  faulty_device faulty = record {
    seen = (behind faulty).seen;
    may_leave = (behind faulty).may_leave;
    moment = calls faulty;
    left_since = λ moment. (behind faulty).left_since ((behind faulty).moment - passed_since faulty.trace.events moment);
    failures = (behind faulty).failures + faults_of faulty.trace.events;
    asked = asked_of faulty.asked.events;
    seen_may_stay = (behind faulty).seen_may_stay;
    sized = (behind faulty).sized;
    counts_now = λ since image le may. (behind faulty).counts_now ((behind faulty).moment - passed_since faulty.trace.events since) image
        (sub-le (behind faulty).moment (passed_since faulty.trace.events since)) may;
    only_now = λ image left. (behind faulty).only_now image (now_behind (behind faulty).left_since (behind faulty).moment faulty.trace.events image left);
  }
