-- The result of a session on a device, by how it was served.
use Rattle.std.proofs.Common.{◌≡◌, ◌≢◌, ◌⊎◌, inl, inr, ◌<◌, true, false, refl, ◌∙◌, subst, arith}
use Rattle.std.specs.Prelude.{Result, Ok, Err, OnOk, ⊤}
use Rattle.std.specs.Io.KnownBytes.{Appends}
use Rattle.hpb_rules.specs.declared.limits.TheConstants.{MOST_READ_BYTES}
use Rattle.hpb_rules.specs.AuctionValue.{Shows}
use Rattle.hpb_disk.specs.declared.disk.Disk.{Ghosts}
use Rattle.hpb_engine.specs.declared.engine.Engine.{Engine}
use Rattle.hpb_engine.specs.Engines.{running_of}
use Rattle.hpb_engine.specs.Keeping.{Running}
use Rattle.hpb_server.specs.declared.fault.SessionFault.{SessionFault}
use Rattle.hpb_server.specs.ScriptLaws.{WritesText}
use Rattle.hpb_server.specs.Streams.{Streams}
use Rattle.hpb_run.specs.Device.{Phase, State, works, failing, failed, IsAt}
use Rattle.hpb_run.specs.DeviceLaws.{Stays}
use Rattle.hpb_run.specs.Running.{RanDevice, ServesFrom}
use Rattle.hpb_run.proofs.DeviceSessions.{device_session_is_text}

-- A phase is that of a device that works, unless it has failed.
works_or_not : (phase : Phase) → (phase ≡ works) ⊎ (phase ≢ works)
works_or_not works = inl refl
works_or_not (failing left) = inr (λ is. absurd (cc))
works_or_not failed = inr (λ is. absurd (cc))

-- The parts of a pair of facts.
first : {A B : Type 0} → A × B → A
first both = both.0

second : {A B : Type 0} → A × B → B
second both = both.1

-- No call has failed, so the device works.
still_works : (start state : State) (run : Running) → IsAt run state → Stays start state → start.had_failed ≡ false → run.device.failures ≡ start.failures → state.phase ≡ works
still_works start state run stands stays never none = by (works_or_not state.phase)
  where
    risen : (state.had_failed ≡ true) ⊎ (state.failures < run.device.failures) → ⊥
    risen (inl had) = absurd (let on = stays.2 ∙ never in cc)
    risen (inr more) = absurd (omega (arith, more, stays.1, none))

    by : (state.phase ≡ works) ⊎ (state.phase ≢ works) → state.phase ≡ works
    by (inl is) = is
    by (inr not) = absurd (risen (stands.cause (stands.stopped not)))

module _ {D : Type 0} {disk : Ghosts D} (before after : Streams) (start : State) (engine : Engine D disk) where
  pub session_ran : (end : Result ⊤ SessionFault) → start.phase ≡ works → ServesFrom before after start (running_of engine) end → RanDevice before after start engine end
  session_ran end at ran =
      let told = device_session_is_text MOST_READ_BYTES before after start ran.0 end at ran.1 in
      record { state = ran.0; writes = first told; stays = second told; stands = ran.2 }

  pub session_well : (end : Result ⊤ SessionFault) → RanDevice before after start engine end → start.had_failed ≡ false → (disk.device engine.disk).failures ≡ start.failures
      → OnOk end (WritesText start.rules start.history MOST_READ_BYTES before after engine.progress.committed)
  session_well (Err fault) ran never none = tt
  session_well (Ok done) ran never none =
      let told = ran.writes.by_rules (still_works start ran.state (running_of engine) ran.stands ran.stays never none) in
      record {
        input = ran.writes.input;
        read = ran.writes.read;
        ended = ran.writes.ended;
        within = ran.writes.within;
        written = subst (Appends before.contents after.contents) told.0 ran.writes.written;
        shows = subst (Shows engine.progress.committed) (ran.stands.acknowledged ∙ told.1) ran.stands.keeps.shows;
      }
