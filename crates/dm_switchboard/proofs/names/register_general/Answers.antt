use Rattle.dm_switchboard.proofs.Imports.{sym, ap, ◌∙◌, is_some, listed, link_named, registers_new}
use Rattle.dm_switchboard.proofs.Entries.{look_up_listed, none_of, taken_stays}
use Rattle.dm_switchboard.proofs.names.register_general.Goals as goal

pub returns-then-contains_key-clause-exact : goal.returns-then-contains_key-clause-exact
returns-then-contains_key-clause-exact c =
    let found = ap is_some (sym (look_up_listed c.args.name.items c.args.names.now.entries)) ∙ sym c.contains_key.ensures ∙ c.if-contains_key.true in
    rw c.answered.ensures (taken_stays (listed c.args.names.now.entries) c.args.name.items c.args.link (link_named c.args.name.items (listed c.args.names.now.entries)) found)

pub returns-clause-exact : goal.returns-clause-exact
returns-clause-exact c =
    let none = none_of _ (sym c.contains_key.ensures ∙ c.if-contains_key.false) in
    ap (registers_new (listed c.args.names.now.entries) c.args.name.items c.args.link) (sym (look_up_listed c.args.name.items c.args.names.now.entries) ∙ none)

pub returns-clause-free : goal.returns-clause-free
returns-clause-free c =
    let none = none_of _ (sym c.contains_key.ensures ∙ c.if-contains_key.false) in
    sym (look_up_listed c.args.name.items c.args.names.now.entries) ∙ none
