use Rattle.dm_packet.proofs.Names.{◌≡◌, ℕ, ◌==◌, Bool, List, Option, None, Some, Ok, find, ok_or, option_map, ap, sym, ◌∙◌, arith, nat_tests, fun_ext, MessageKind, all_kinds, number_of, kind_numbered, number, message_kind}
use Rattle.dm_packet.specs.declared.PacketError.TheVariants as bad
use Rattle.dm_packet.proofs.reading.parts.kind_at.Goals as goal

same_test : (a b : ℕ) → (a == b) ≡ (b == a)
same_test a b = grind (arith, nat_tests)

-- the kind by its number, as the code finds it
kind-read : (bytes : List ℕ) (n : ℕ) (rest : List ℕ) (o : Option MessageKind) → (number 1).read bytes ≡ Ok (n, rest) → o ≡ kind_numbered n → message_kind.read bytes ≡ ok_or {T = MessageKind × List ℕ} (option_map (λ k. (k, rest)) o) bad.MessageKind
kind-read bytes n rest o e is =
    let answer : Option MessageKind → _ = λ found. ok_or {T = MessageKind × List ℕ} (option_map (λ k. (k, rest)) found) bad.MessageKind in
    rw e (ap (λ (test : MessageKind → Bool). answer (find test all_kinds)) (fun_ext (λ k. same_test n (number_of k))) ∙ ap answer (sym is))

pub returns-in-Some : goal.returns-in-Some
returns-in-Some c = kind-read c.args.bytes.now _ _ (Some c.in-Some.kind) c.in_ok-number.ensures (sym c.in-Some.is ∙ c.numbered.ensures)

pub returns-in-None : goal.returns-in-None
returns-in-None c = kind-read c.args.bytes.now _ _ None c.in_ok-number.ensures (sym c.in-None.is ∙ c.numbered.ensures)
