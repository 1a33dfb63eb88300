use Rattle.dm_statebytes.proofs.Names.{◌≡◌, ℕ, List, ◌++◌, length, sym, ap, subst, ◌∙◌, append_assoc, arith, flat_map, number, front, shell, shell_front, shell_of, shell_spelling, mask_of, spell_slot}
use Rattle.dm_statebytes.proofs.Lawful.{shell_is_lawful}
use Rattle.dm_statebytes.proofs.Shells.{shell_back}
use Rattle.dm_statebytes.proofs.Sizes.{IsSize, front_size, lawful_size}
use Rattle.dm_statebytes.proofs.pack.Goals as goal

pub put_mask-requires : goal.put_mask-requires
put_mask-requires c =
    let s = shell_of c.args.process.now in
    let first = front.spell (shell_front s) in
    let put : c.put_front.new.out.items ≡ first = c.put_front.ensures.put ∙ ap (λ (old : List ℕ). old ++ first) c.new-room.ensures in
    record { room = omega (arith, ap length put, (front_size s c.requires.lawful.registers).1) }

pub returns-clause-ok : goal.returns-clause-ok
unfolding shell_spelling
returns-clause-ok c =
    let p = c.args.process.now in
    let first = front.spell (shell_front (shell_of p)) in
    let mask = (number 16).spell (mask_of p.table) in
    let links = flat_map spell_slot p.table in
    let put : c.put_front.new.out.items ≡ first = c.put_front.ensures.put ∙ ap (λ (old : List ℕ). old ++ first) c.new-room.ensures in
    let masked : c.put_mask.new.out.items ≡ first ++ mask = c.put_mask.ensures.put ∙ ap (λ (old : List ℕ). old ++ mask) put in
    let bytes : c.in_ok-bytes.bytes.items ≡ first ++ mask = c.in_ok-bytes.ensures.items ∙ c.deref.ensures.0 ∙ masked in
    c.in_ok-extend_with_links.ensures.ok ∙ ap (λ (old : List ℕ). old ++ links) bytes ∙ append_assoc first mask links

pub returns-clause-size : goal.returns-clause-size
returns-clause-size c =
    let p = c.args.process.now in
    let short = lawful_size (length p.table) (shell_of p) c.requires.lawful.slots (shell_is_lawful p c.requires.lawful) in
    subst (λ (bytes : List ℕ). IsSize (length bytes)) (sym (returns-clause-ok c)) short

pub returns-clause-again : goal.returns-clause-again
returns-clause-again c =
    let p = c.args.process.now in
    let put = c.put_front.ensures in
    ap (shell (length p.table)).read (returns-clause-ok c)
    ∙ shell_back (length p.table) (shell_of p) c.requires.lawful.slots (shell_is_lawful p c.requires.lawful)
    (record { pid = put.pid; status = put.status; sent = put.sent; moves = put.moves; registers = put.registers; pc = put.pc; links = c.in_ok-extend_with_links.ensures.fits })
