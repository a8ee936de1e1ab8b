use Rattle.hpb_slots.specs.declared.slot.Slot.TheVariants.{First, Second}
use Rattle.hpb_slots.proofs.Choosing.{none_found, some_found, neither, only_first, only_second, first_newest, second_newest}
use Rattle.hpb_slots.proofs.reading.choose.Goals as goal

pub returns-in-None-None : goal.returns-in-None-None
returns-in-None-None c rules image one other first second =
    neither c.holds_one.ensures rules image
    (none_found rules First image one c.args.first c.in-None-None.is-0 first) (none_found rules Second image other c.args.second c.in-None-None.is-1 second)

pub returns-in-None-Some : goal.returns-in-None-Some
returns-in-None-Some c rules image one other first second =
    let h = c.in-None-Some in
    (only_second c.holds_one.ensures rules image h.index other (none_found rules First image one c.args.first h.is-0 first) (some_found rules Second image other c.args.second h.index h.is-1 second), first.0)

pub returns-in-Some-None : goal.returns-in-Some-None
returns-in-Some-None c rules image one other first second =
    let h = c.in-Some-None in
    (only_first c.holds_one.ensures rules image h.index one (some_found rules First image one c.args.first h.index h.is-0 first) (none_found rules Second image other c.args.second h.is-1 second), second.0)

pub returns-then-other-one : goal.returns-then-other-one
returns-then-other-one c rules image one other first second =
    let h = c.in-Some-Some in
    (first_newest c.holds_one.ensures rules image h.one one h.other other (some_found rules First image one c.args.first h.one h.is-0 first) (some_found rules Second image other c.args.second h.other h.is-1 second) c.if-other-one.true, second.0)

pub returns-else-other-one : goal.returns-else-other-one
returns-else-other-one c rules image one other first second =
    let h = c.in-Some-Some in
    (second_newest c.holds_one.ensures rules image h.other other h.one one (some_found rules First image one c.args.first h.one h.is-0 first) (some_found rules Second image other c.args.second h.other h.is-1 second) c.if-other-one.false, first.0)
