use Rattle.dm_node.proofs.Names.{◌∷◌, [], subst, FreezesWhole, MeetsSome, node_state, so_far}
use Rattle.dm_line.specs.declared.line.Line.TheVariants as line
use Rattle.dm_kernel.specs.declared.part.Part.TheVariants as part
use Rattle.dm_kernel.specs.Meets.{parts_or_idle}
use Rattle.dm_kernel.specs.Turn as kernel
use Rattle.dm_node.proofs.Parts.{lawful_parts, or_no_memory, turn_answered}
use Rattle.dm_node.proofs.Here.{turn_stays}
use Rattle.dm_node.proofs.Staying.{turned_may}
use Rattle.dm_node.proofs.node.Node.turn.Goals as goal

pub act-requires-clause-may : goal.act-requires-clause-may
act-requires-clause-may c =
    let n = node_state c.args.self.now in
    let k = c.turn.new.self in
    let gives = kernel.turn c.args.boot.now n.kernel in
    turned_may n k c.in-Ok-Some.parts.items gives
    (subst (λ parts. MeetsSome k (parts_or_idle k.here parts) gives) c.in-Ok-Some.field-0-is c.in-Ok-Some.ensures.answers)
    (turn_stays c.args.boot.now n.kernel) c.requires.may.acts

pub act-requires-clause-parts : goal.act-requires-clause-parts
act-requires-clause-parts c =
    let n = node_state c.args.self.now in
    let k = c.turn.new.self in
    let gives = kernel.turn c.args.boot.now n.kernel in
    lawful_parts k c.in-Ok-Some.parts.items gives
    (subst (λ parts. MeetsSome k (parts_or_idle k.here parts) gives) c.in-Ok-Some.field-0-is c.in-Ok-Some.ensures.answers)
    (λ t is. c.turns_are_lawful.ensures c.args.boot.now n.kernel t c.requires.images c.requires.may.kernel c.requires.lawful is)

pub returns-in-Ok-Some-clause-answers : goal.returns-in-Ok-Some-clause-answers
returns-in-Ok-Some-clause-answers c =
    let n = node_state c.args.self.now in
    let k = c.turn.new.self in
    let gives = kernel.turn c.args.boot.now n.kernel in
    turn_answered c.act.result c.act.new.self n k c.in-Ok-Some.parts.items gives (so_far c.args.wires.now c.args.lines.now.items) (so_far c.act.new.wires c.act.new.lines.items)
    (subst (λ parts. MeetsSome k (parts_or_idle k.here parts) gives) c.in-Ok-Some.field-0-is c.in-Ok-Some.ensures.answers)
    c.act.ensures

pub returns-in-Ok-Some-clause-whole : goal.returns-in-Ok-Some-clause-whole
returns-in-Ok-Some-clause-whole c =
    let s = (node_state c.args.self.now).kernel in
    or_no_memory c.act.result (FreezesWhole s s.inbox) c.in-Ok-Some.ensures.whole

pub returns-in-Ok-None-clause-answers : goal.returns-in-Ok-None-clause-answers
returns-in-Ok-None-clause-answers c =
    let n = node_state c.args.self.now in
    let k = c.turn.new.self in
    let gives = kernel.turn c.args.boot.now n.kernel in
    turn_answered c.say_idle.result (record c.args.self.now { kernel = k }) n k (part.Says (line.Idle k.here) ∷ []) gives (so_far c.args.wires.now c.args.lines.now.items) (so_far c.args.wires.now c.say_idle.new.lines.items)
    (subst (λ parts. MeetsSome k (parts_or_idle k.here parts) gives) c.in-Ok-None.field-0-is c.in-Ok-None.ensures.answers)
    (c.say_idle.ensures c.args.wires.now)

pub returns-in-Ok-None-clause-whole : goal.returns-in-Ok-None-clause-whole
returns-in-Ok-None-clause-whole c =
    let s = (node_state c.args.self.now).kernel in
    or_no_memory c.say_idle.result (FreezesWhole s s.inbox) c.in-Ok-None.ensures.whole
