use Rattle.dm_procman.proofs.Names.{sym, ap, ◌∙◌, position, Some, has_number}
use Rattle.dm_procman.proofs.Waiting.{found_there, is_there, never_none, others_there}
use Rattle.dm_procman.proofs.pending.take_pending.Goals as goal

pub unwrap-place-requires : goal.unwrap-place-requires
unwrap-place-requires c =
    is_there c.place_of.result (λ none. never_none c.args.number c.args.pending.now.items c.requires (sym (c.place_of.ensures ∙ ap (position (has_number c.args.number)) c.as_slice.ensures.value) ∙ none))

pub returns-clause-request : goal.returns-clause-request
returns-clause-request c =
    let there = sym (c.place_of.ensures ∙ ap (position (has_number c.args.number)) c.as_slice.ensures.value) ∙ c.unwrap-place.ensures in
    found_there c.args.number c.args.pending.now.items c.unwrap-place.result c.remove.result there ∙ ap Some (sym c.remove.ensures.value)

pub returns-clause-others : goal.returns-clause-others
returns-clause-others c =
    let there = sym (c.place_of.ensures ∙ ap (position (has_number c.args.number)) c.as_slice.ensures.value) ∙ c.unwrap-place.ensures in
    c.remove.ensures.items ∙ sym (others_there c.args.number c.args.pending.now.items c.unwrap-place.result c.remove.result there)
