-- What is answered to a request that was pending, once it is settled.
use Rattle.std.specs.Prelude.{is_some}
use Rattle.dm_procman.proofs.Names.{◌≡◌, ℕ, ◌+◌, if◌then◌else◌, List, None, Some, Option, refl, sym, ap, ◌∙◌, Addr, Link, Message, Managing, answers_over, settled}

-- the children don't matter
pub childless : (here : ℕ) (g : Managing) (children : List Addr) (link : Option Link) (code : ℕ) (links : List Link) → (answers_over here g link code links).message ≡ (answers_over here (record g { children = children }) link code links).message
childless here g children None code links = refl
childless here g children (Some l) code links = refl

pub settles : (here n : ℕ) (g new : Managing) (link : Option Link) (code : ℕ) (links : List Link) (sent : Option Message) → sent ≡ (answers_over here g link code links).message →
    new ≡ record (settled g n) { sent = if is_some sent then g.sent + 1 else g.sent } → answers_over here (settled g n) link code links ≡ record { manager = new; message = sent }
settles here n g new None code links sent e f =
    let m = sym (f ∙ ap (λ (s : Option Message). let x : Managing = record (settled g n) { sent = if is_some s then g.sent + 1 else g.sent } in x) e) in
    λ i. record { manager = m i; message = sym e i }
settles here n g new (Some l) code links sent e f =
    let m = sym (f ∙ ap (λ (s : Option Message). let x : Managing = record (settled g n) { sent = if is_some s then g.sent + 1 else g.sent } in x) e) in
    λ i. record { manager = m i; message = sym e i }
