use Rattle.std.proofs.Common.{◌≡◌, List, true, ap, subst, sym, ◌∙◌}
use Rattle.std.specs.Prelude.{map}
use Rattle.std.specs.List.{list_all}
use Rattle.verify_types.specs.Environment.{Environment}
use Rattle.verify_types.specs.Handlers.{are_satisfied}
use Rattle.verify_code.specs.declared.guards.Guard.{Guard}
use Rattle.verify_code.specs.Guards.{guard_in}
use Rattle.verify_code.specs.Merged.{AskSame}
use Rattle.verify_code.specs.Handlers.{keeps_more, next_start}
use Rattle.verify_frames.specs.KnownStates.{type_state}
use Rattle.verify_code.proofs.HandlerLaws.{holds_here, judged_here, satisfied_is}
use Rattle.verify_code.proofs.environment.Environment.judge_handlers.Goals as goal

pub returns-then-not-are_more_satisfied-clause-found : goal.returns-then-not-are_more_satisfied-clause-found
returns-then-not-are_more_satisfied-clause-found g c =
    let hs = map guard_in c.self.inside.guards.items in
    let alike : AskSame c.args.self.now hs c.args.self.now.handlers = subst (λ (e : Environment). AskSame e hs e.handlers) c.self.view_is c.self.invariant.guarded in
    sym c.if-not-are_more_satisfied.true
    ∙ satisfied_is c.args.self.now c.args.pc (type_state c.args.s.now) hs c.args.twice c.are_more_satisfied.result alike
    (c.are_more_satisfied.ensures ∙ c.asking-asking.ensures c.args.self.now (type_state c.args.s.now) ∙ ap (λ (gs : List Guard). list_all (keeps_more c.args.self.now c.args.twice c.args.pc (type_state c.args.s.now)) (map guard_in gs)) c.deref.ensures.value) c.requires.twice

pub returns-clause-judged : goal.returns-clause-judged
returns-clause-judged g c =
    let env = c.args.self.now in
    let s = type_state c.args.s.now in
    let hs = map guard_in c.self.inside.guards.items in
    let alike : AskSame env hs env.handlers = subst (λ (e : Environment). AskSame e hs e.handlers) c.self.view_is c.self.invariant.guarded in
    let satisfied : are_satisfied env c.args.pc s ≡ true =
    sym (satisfied_is env c.args.pc s hs c.args.twice c.are_more_satisfied.result alike
    (c.are_more_satisfied.ensures ∙ c.asking-asking.ensures c.args.self.now (type_state c.args.s.now) ∙ ap (λ (gs : List Guard). list_all (keeps_more env c.args.twice c.args.pc s) (map guard_in gs)) c.deref.ensures.value) c.requires.twice)
    ∙ c.if-not-are_more_satisfied.false in
    judged_here env s c.args.pc c.next_start.result hs alike
    (c.next_start.ensures ∙ ap (λ (gs : List Guard). next_start c.args.pc 65536 (map guard_in gs)) c.deref-2.ensures.value)
    satisfied

pub returns-clause-found : goal.returns-clause-found
returns-clause-found g c =
    let hs = map guard_in c.self.inside.guards.items in
    let alike : AskSame c.args.self.now hs c.args.self.now.handlers = subst (λ (e : Environment). AskSame e hs e.handlers) c.self.view_is c.self.invariant.guarded in
    holds_here c.args.pc c.next_start.result (map guard_in c.deref-2.result.now) c.requires.low c.next_start.ensures
    ∙ sym c.if-not-are_more_satisfied.false
    ∙ satisfied_is c.args.self.now c.args.pc (type_state c.args.s.now) hs c.args.twice c.are_more_satisfied.result alike
    (c.are_more_satisfied.ensures ∙ c.asking-asking.ensures c.args.self.now (type_state c.args.s.now) ∙ ap (λ (gs : List Guard). list_all (keeps_more c.args.self.now c.args.twice c.args.pc (type_state c.args.s.now)) (map guard_in gs)) c.deref.ensures.value) c.requires.twice
