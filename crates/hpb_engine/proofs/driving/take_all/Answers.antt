use Rattle.std.proofs.Common.{◌≡◌, ◌+◌, ◌++◌, [], List, Bool, Option, Some, None, take, drop, length, refl, sym, ◌∙◌, ap, subst, arith}
use Rattle.std.specs.Prelude.{if◌then◌else◌, vec_len}
use Rattle.std.proofs.lemmas.List.{take_all}
use Rattle.hpb_rules.specs.declared.letter.Answer.{Answer}
use Rattle.hpb_engine.specs.declared.event.Event.{Event}
use Rattle.hpb_engine.specs.declared.step.Fault.{Fault}
use Rattle.hpb_engine.specs.Engines.{Ran, pause_of, running_of}
use Rattle.hpb_engine.specs.Runs.{HasFailed, last_of}
use Rattle.hpb_engine.proofs.Running.{failed_since, ran_none, ran_on, ran_off, none_of, some_in, front_more, front_rest}
use Rattle.hpb_engine.proofs.driving.take_all.Goals as goal

pub loop-event-init : goal.loop-event-init
loop-event-init g c =
    let engine = c.args.engine.now in (
      omega (arith, c.requires.room),
      refl,
      λ machine keeps. subst
          (λ (answers : List Answer). Ran (pause_of engine machine) [] engine answers None)
          (sym c.requires.none) (ran_none (running_of engine) keeps),
    )

pub returns-then-is_some-clause-ran : goal.returns-then-is_some-clause-ran
returns-then-is_some-clause-ran g c machine keeps =
    let engine = c.args.engine.now in
    let start = pause_of engine machine in
    let events : List Event = c.args.events.now in
    let i = c.loop-event.event-index in
    let event : Event = c.event-item.result in
    let old = c.loop-event.engine in
    let new = c.take_event-fault.new.engine in
    let ran = c.loop-event.invariant.2 machine keeps in
    let why = some_in c.take_event-fault.result (sym c.is_some.ensures ∙ c.if-is_some.true) in
    let worked = sym c.is_ok.ensures.value ∙ c.if-prove.false in
    let items = c.extend_from_slice-added.ensures.items ∙ ap (λ (ok : Bool). if ok then c.loop-event.answers.items ++ c.as_slice.result.now else c.loop-event.answers.items) worked
    ∙ ap (λ (more : List Answer). c.loop-event.answers.items ++ more) c.as_slice.ensures.value in
    subst (λ (given : List Answer). Ran start events new given c.take_event-fault.result) (sym items)
    (subst (λ (fault : Option Fault). Ran start events new (c.loop-event.answers.items ++ c.take_event-fault.new.leaving) fault) (sym why.1)
    (subst (λ (taken : List Event). Ran start taken new (c.loop-event.answers.items ++ c.take_event-fault.new.leaving) (Some why.0))
    (sym (front_rest events i event c.loop-event-test.true c.event-item.is))
    (ran_off ran (c.take_event-fault.ensures.took (last_of start ran.pauses).machine ran.keeps) (drop (i + 1) events) why.0 why.1)))

pub returns-then-is_some-clause-cause : goal.returns-then-is_some-clause-cause
returns-then-is_some-clause-cause g c =
    failed_since _ _ _ c.take_event-fault.result c.loop-event.invariant.1 c.take_event-fault.ensures.cause

pub loop-event-preserved : goal.loop-event-preserved
loop-event-preserved g c =
    let d = g.D.Disk in
    let engine = c.args.engine.now in
    let events : List Event = c.args.events.now in
    let i = c.loop-event.event-index in
    let event : Event = c.event-item.result in
    let old = c.loop-event.engine in
    let new = c.take_event-fault.new.engine in
    let none = none_of c.take_event-fault.result (sym c.is_some.ensures ∙ c.if-is_some.false) in
    let worked = sym c.is_ok.ensures.value ∙ c.if-prove.false in
    let unfailed = λ (no : c.take_event-fault.result ≡ None). subst (λ (fault : Option Fault). HasFailed fault (d.device old.disk) (d.device new.disk)) no c.take_event-fault.ensures.cause in
    let items = c.extend_from_slice-added.ensures.items ∙ ap (λ (ok : Bool). if ok then c.loop-event.answers.items ++ c.as_slice.result.now else c.loop-event.answers.items) worked
    ∙ ap (λ (more : List Answer). c.loop-event.answers.items ++ more) c.as_slice.ensures.value in
    let len : vec_len c.extend_from_slice-added.new.self ≡ vec_len c.loop-event.answers + length c.as_slice.result.now =
    c.extend_from_slice-added.ensures.len ∙ ap (λ (ok : Bool). if ok then vec_len c.loop-event.answers + length c.as_slice.result.now else vec_len c.loop-event.answers) worked in (
      omega (arith, len, c.as_slice.ensures.most, c.extend_from_slice-added.ensures.capacity, c.loop-event.invariant.0, c.loop-event-test.true),
      unfailed none ∙ c.loop-event.invariant.1,
      λ machine keeps.
          let start = pause_of engine machine in
          let ran = c.loop-event.invariant.2 machine keeps in
          subst (λ (given : List Answer). Ran start (take (i + 1) events) new given None) (sym items)
          (subst (λ (taken : List Event). Ran start taken new (c.loop-event.answers.items ++ c.take_event-fault.new.leaving) None)
          (sym (front_more events i event c.loop-event-test.true c.event-item.is))
          (ran_on ran (c.take_event-fault.ensures.took (last_of start ran.pauses).machine ran.keeps) none)),
    )

pub returns-clause-ran : goal.returns-clause-ran
returns-clause-ran g c machine keeps =
    let engine = c.args.engine.now in
    let start = pause_of engine machine in
    let at = c.loop-event.engine in
    subst (λ (taken : List Event). Ran start taken at c.loop-event.answers.items None)
    (take_all c.loop-event.event-index c.args.events.now (omega (arith, c.loop-event-test.false))) (c.loop-event.invariant.2 machine keeps)
