use Rattle.std.proofs.Common.{ap, sym, subst, ◌∙◌}
use Rattle.monitors.specs.Monitors.{Becomes, Monitor, after_enter, monitor_of}
use Rattle.monitor_steps.proofs.EntryLaws.{after_room, blocked_is, blocked_lists, got_is, monitor_lined_up, monitor_taken, taken_lists}
use Rattle.monitor_steps.proofs.entering.enter_monitor.Goals as goal

pub returns-in-Got-clause-enters : goal.returns-in-Got-clause-enters
returns-in-Got-clause-enters c =
    let a = c.args.state.now in
    let o = c.args.o in
    let t = c.args.t in
    let b = c.room.new.self in
    let same = c.in_ok-room.ensures.monitors o in
    monitor_taken a c.enter.new.self t o
    (got_is (monitor_of b o) (monitor_of a.monitors o) t c.enter.result same c.enter.ensures.entered c.in-Got.is)
    (λ none. ap (λ (m : Monitor). m.count) (sym same) ∙ c.once.ensures.unowned o (ap (λ (m : Monitor). m.owner) same ∙ none))
    (after_room a.monitors b c.enter.new.self o (after_enter t (monitor_of a.monitors o)) c.in_ok-room.ensures.monitors c.in_ok-room.ensures.threads c.in_ok-room.ensures.spare
    (subst (λ (m : Monitor). Becomes b c.enter.new.self o (after_enter t m)) same c.enter.ensures.monitor))

pub returns-in_ok-set_phase-in-Blocked-clause-enters : goal.returns-in_ok-set_phase-in-Blocked-clause-enters
returns-in_ok-set_phase-in-Blocked-clause-enters c =
    let a = c.args.state.now in
    let o = c.args.o in
    let t = c.args.t in
    let b = c.room.new.self in
    let same = c.in_ok-room.ensures.monitors o in
    monitor_lined_up a c.enter.new.self c.set_phase.new.threads t o
    (blocked_is (monitor_of b o) (monitor_of a.monitors o) t c.enter.result same c.enter.ensures.entered c.in-Blocked.is)
    (after_room a.monitors b c.enter.new.self o (after_enter t (monitor_of a.monitors o)) c.in_ok-room.ensures.monitors c.in_ok-room.ensures.threads c.in_ok-room.ensures.spare
    (subst (λ (m : Monitor). Becomes b c.enter.new.self o (after_enter t m)) same c.enter.ensures.monitor))
    (c.in_ok-set_phase-in-Blocked).ensures

pub returns-in_ok-set_phase-in-Blocked-clause-lists : goal.returns-in_ok-set_phase-in-Blocked-clause-lists
returns-in_ok-set_phase-in-Blocked-clause-lists c =
    let a = c.args.state.now in
    let o = c.args.o in
    let t = c.args.t in
    let b = c.room.new.self in
    let same = c.in_ok-room.ensures.monitors o in
    blocked_lists a.monitors c.enter.new.self t o
    (blocked_is (monitor_of b o) (monitor_of a.monitors o) t c.enter.result same c.enter.ensures.entered c.in-Blocked.is)
    (after_room a.monitors b c.enter.new.self o (after_enter t (monitor_of a.monitors o)) c.in_ok-room.ensures.monitors c.in_ok-room.ensures.threads c.in_ok-room.ensures.spare
    (subst (λ (m : Monitor). Becomes b c.enter.new.self o (after_enter t m)) same c.enter.ensures.monitor))

pub returns-in-Got-clause-lists : goal.returns-in-Got-clause-lists
returns-in-Got-clause-lists c =
    let a = c.args.state.now in
    let o = c.args.o in
    let t = c.args.t in
    let b = c.room.new.self in
    let same = c.in_ok-room.ensures.monitors o in
    taken_lists a.monitors c.enter.new.self t o
    (got_is (monitor_of b o) (monitor_of a.monitors o) t c.enter.result same c.enter.ensures.entered c.in-Got.is)
    (after_room a.monitors b c.enter.new.self o (after_enter t (monitor_of a.monitors o)) c.in_ok-room.ensures.monitors c.in_ok-room.ensures.threads c.in_ok-room.ensures.spare
    (subst (λ (m : Monitor). Becomes b c.enter.new.self o (after_enter t m)) same c.enter.ensures.monitor))
