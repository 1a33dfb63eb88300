use Rattle.std.proofs.Common.{rules}
use Rattle.dm_boot.proofs.Imports.{◌≡◌, ◌∙◌, true, None, Some, if◌then◌else◌, Bool, List, ℕ, Option, length, slice_get, sym, ap, arith, string_bytes, bytes_eq, as_str, view}
use Rattle.dm_boot.proofs.Keys.{lone-one}
use Rattle.dm_boot.proofs.tables.lone_member.Goals as goal

pub returns-then-eq-clause-text : goal.returns-then-eq-clause-text
returns-then-eq-clause-text c =
    let es = c.args.table.now.entries in
    let k = c.in-Some.name.now in
    let v = c.in-Some.value.now in
    let one : length es ≡ 1 = omega arith in
    let first : slice_get es 0 ≡ Some (k, v) = c.in-Some.ensures.first in
    let same : bytes_eq (string_bytes k) c.args.key.now ≡ true = search rules in
    let said : Option (List ℕ) = as_str (view v) in
    c.as_str-then-eq.ensures ∙ sym (lone-one es k v c.args.key.now one first ∙ ap (λ (b : Bool). if b then said else None) same)
