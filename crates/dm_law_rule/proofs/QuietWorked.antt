-- A small system is quiet at its start, and not while a message is on its way.
use Rattle.dm_law_rule.proofs.Names.{◌≡◌, ℕ, length, refl, ap, sym, ◌∙◌, lit<, Option, None, Some, instruction, Step, Spelled, first_point, IsQuiet, group_of}
use Rattle.dm_law_rule.proofs.Worked.{hi}

pub quiet_at_start : IsQuiet 2 (first_point hi).view
quiet_at_start = record { taken = λ a b h k. refl; acked = λ a b h k d. refl; inbox = λ m h. refl }

-- what was routed from machine 0 to machine 1, and what was taken of it
abbrev routed : Option Spelled → ℕ
routed None = 0
routed (Some w) = length (w.point.view.pair 0 1).ids

abbrev taken : Option Spelled → ℕ
taken None = 0
taken (Some w) = (w.point.view.pair 0 1).taken

one_routed : routed (group_of hi (first_point hi) (Step.Turn 0)) ≡ 1
unfolding instruction
one_routed = refl

none_taken : taken (group_of hi (first_point hi) (Step.Turn 0)) ≡ 0
unfolding instruction
none_taken = refl

-- behind the first turn the message "hi" is on its way
pub not_quiet_after_send : (w : Spelled) → group_of hi (first_point hi) (Step.Turn 0) ≡ Some w → IsQuiet 2 w.point.view → ⊥
not_quiet_after_send w e quiet =
    let one : routed (Some w) ≡ 1 = ap routed (sym e) ∙ one_routed in
    let none : taken (Some w) ≡ 0 = ap taken (sym e) ∙ none_taken in
    let same : taken (Some w) ≡ routed (Some w) = quiet.taken 0 1 (lit< tt) (lit< tt) in
    let h : 0 ≡ 1 = sym none ∙ same ∙ one in cc
