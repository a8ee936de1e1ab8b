-- Calls of a device that is made to fail. It stands in front of another device and passes calls on to it.
use Rattle.std.specs.Prelude.{ℕ, zero, suc, ◌+◌, nat_le, nat_lt, ◌==◌, Bool, ◌&&◌, ◌||◌, List, [], ◌∷◌, length, if◌then◌else◌}
use Rattle.hpb_disk.specs.Events.{Event}

-- An entry has one of three kinds. Kind 0 is a call that was passed on. Kind 1 is a call that failed and wasn't passed
-- on. Kind 2 is a write that was passed on and answered as failed.
--
-- How many calls of the device behind it an entry stands for.
abbrev pub passed_on : Event → ℕ
passed_on event = if event.0 == 1 then 0 else 1

-- How many failures of its own an entry stands for.
abbrev pub fault_of : Event → ℕ
fault_of event = if event.0 == 0 then 0 else 1

-- How many calls it made fail by itself.
abbrev pub faults_of : List Event → ℕ
faults_of [] = 0
faults_of (event ∷ events) = fault_of event + faults_of events

-- How many calls the device behind it has had since a number of this one's calls.
abbrev pub passed_since : List Event → ℕ → ℕ
passed_since [] moment = 0
passed_since (event ∷ events) moment = if nat_le moment (length events) then passed_on event + passed_since events moment else 0

-- Whether a call fails because it comes after the first that fails, and all of those fail.
abbrev pub is_late : Bool → ℕ → ℕ → Bool
is_late later fault call = later && nat_lt fault call

-- Whether a call fails because of its number.
abbrev pub is_fault : Bool → ℕ → ℕ → Bool
is_fault later fault call = (call == fault) || is_late later fault call

-- How many of the first calls fail because of their numbers.
abbrev pub faults_among : Bool → ℕ → ℕ → ℕ
faults_among later fault zero = 0
faults_among later fault (suc count) = (if is_fault later fault (suc count) then 1 else 0) + faults_among later fault count
