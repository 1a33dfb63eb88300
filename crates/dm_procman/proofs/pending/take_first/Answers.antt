-- It stands under its number, or behind those that do.
use Rattle.std.specs.Map.{values_of}
use Rattle.dm_procman.proofs.Names.{ℕ, List, Pending, IsSome, ap, sym, subst, ◌++◌, ◌∙◌}
use Rattle.dm_procman.specs.Numbered.{IsNumbered}
use Rattle.dm_procman.proofs.Numbered.{none_removed, none_under, still_numbered, taken_under}
use Rattle.dm_procman.proofs.pending.take_first.Goals as goal

pub take_pending-requires : goal.take_pending-requires
take_pending-requires c =
    subst IsSome (none_under c.args.number c.args.ascending.now.entries c.args.others.now.items c.requires.numbered (sym c.remove.ensures.value ∙ c.in-None.is)).0 c.requires.there

pub returns-in-Some-clause-request : goal.returns-in-Some-clause-request
returns-in-Some-clause-request c =
    (taken_under c.args.number c.args.ascending.now.entries c.args.others.now.items c.in-Some.request c.requires.numbered (sym c.remove.ensures.value ∙ c.in-Some.is)).0

pub returns-in-Some-clause-others : goal.returns-in-Some-clause-others
returns-in-Some-clause-others c =
    ap (λ (es : List (ℕ × Pending)). values_of es ++ c.args.others.now.items) c.remove.ensures.entries
    ∙ (taken_under c.args.number c.args.ascending.now.entries c.args.others.now.items c.in-Some.request c.requires.numbered (sym c.remove.ensures.value ∙ c.in-Some.is)).1

pub returns-in-Some-clause-numbered : goal.returns-in-Some-clause-numbered
returns-in-Some-clause-numbered c = subst IsNumbered (sym c.remove.ensures.entries) (still_numbered c.args.number c.args.ascending.now.entries c.requires.numbered)

pub returns-in-None-clause-request : goal.returns-in-None-clause-request
returns-in-None-clause-request c =
    (none_under c.args.number c.args.ascending.now.entries c.args.others.now.items c.requires.numbered (sym c.remove.ensures.value ∙ c.in-None.is)).0 ∙ c.take_pending.ensures.request

pub returns-in-None-clause-others : goal.returns-in-None-clause-others
returns-in-None-clause-others c =
    let none = sym c.remove.ensures.value ∙ c.in-None.is in
    ap (λ (es : List (ℕ × Pending)). values_of es ++ c.take_pending.new.pending.items) (c.remove.ensures.entries ∙ none_removed c.args.number c.args.ascending.now.entries none)
    ∙ ap (λ (rs : List Pending). values_of c.args.ascending.now.entries ++ rs) c.take_pending.ensures.others
    ∙ sym (none_under c.args.number c.args.ascending.now.entries c.args.others.now.items c.requires.numbered none).1
