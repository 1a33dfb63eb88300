-- What is packed of a lawful process is lawful, and so is a process that is made of it.
use Rattle.dm_statebytes.proofs.Names.{◌≡◌, ℕ, ◌*◌, ◌/◌, ◌≤◌, length, refl, sym, ap, subst, ◌∙◌, arith}
use Rattle.dm_statebytes.proofs.Names.{IsLawfulProcess, IsLawfulStatus, Process, IsLawfulShell, shell_of}

pub shell_is_lawful : (p : Process) → IsLawfulProcess p → IsLawfulShell (length p.table) (shell_of p)
shell_is_lawful p lawful =
    let n : ℕ = lawful.size.0 in
    let whole : length p.memory ≡ 256 * n = lawful.size.1 in
    let blocks : length p.memory / 256 ≡ n = omega (arith, whole) in
    let least : 1 ≤ n = lawful.size.2 in
    let most : n ≤ 256 = lawful.size.3 in
    let again : length p.memory ≡ 256 * (length p.memory / 256) = whole ∙ ap (λ k. 256 * k) (sym blocks) in
    record {
      home = lawful.home;
      registers = lawful.registers;
      blocks = (omega (arith, blocks, least), omega (arith, blocks, most));
      links = lawful.links;
      slots = refl;
      status = subst (λ k. IsLawfulStatus k p.status) again lawful.status;
    }
