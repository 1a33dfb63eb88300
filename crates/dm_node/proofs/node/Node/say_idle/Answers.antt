use Rattle.dm_node.proofs.Names.{◌∷◌, ◌++◌, [], ap, ◌∙◌}
use Rattle.dm_line.specs.declared.line.Line.TheVariants as line
use Rattle.dm_node.proofs.Parts.{idle_said}
use Rattle.dm_node.proofs.node.Node.say_idle.Goals as goal

pub returns : goal.returns
returns c = λ wires.
    idle_said c.args.self.now wires c.args.lines.now.items c.say.new.lines.items
    (c.in_ok-say.ensures.ok ∙ ap (λ h. c.args.lines.now.items ++ line.Idle h ∷ []) c.here.ensures) c.requires.streams
