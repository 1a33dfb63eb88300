-- From wherever a run stands all directives that are left come to their ends.
use Rattle.dm_law_runs.proofs.Names.{List, [], ◌∷◌, length, refl, All, All-head, All-tail, Boot, IsValid, Directive, Point, IsDirective}
use Rattle.dm_law_runs.proofs.Runs.{From, Stood, between, goes, over, rounds_out, same, spin_same}
use Rattle.dm_law_runs.proofs.Rests.{rest_out, rest_same, todo}
use Rattle.dm_law_runs.proofs.Settles.{settle_out}

pub all_out : (b : Boot) (ds : List Directive) → IsValid b → All (IsDirective (length b.machines)) ds → (pt : Point) → Stood b pt → From b pt (between 0 ds)
all_out b [] valid fit pt s = over b pt (between 0 []) s refl
all_out b (Directive.One e ∷ ds) valid fit pt s =
    goes b pt (between 0 (Directive.One e ∷ ds)) (record { step = e; left = between 0 ds }) valid s refl (All-head (IsDirective (length b.machines)) (Directive.One e) ds fit)
    (λ w is next. all_out b ds valid (All-tail (IsDirective (length b.machines)) (Directive.One e) ds fit) w.point next)
all_out b (Directive.Round ∷ ds) valid fit pt s =
    let rest = all_out b ds valid (All-tail (IsDirective (length b.machines)) Directive.Round ds fit) in
    same b pt (between 0 (Directive.Round ∷ ds)) (between 1 ds) s refl (rounds_out b 1 ds valid rest pt s)
all_out b (Directive.Spin n ∷ ds) valid fit pt s =
    let rest = all_out b ds valid (All-tail (IsDirective (length b.machines)) (Directive.Spin n) ds fit) in
    same b pt (between 0 (Directive.Spin n ∷ ds)) (between n ds) s (spin_same b pt n ds) (rounds_out b n ds valid rest pt s)
all_out b (Directive.Settle ∷ ds) valid fit pt s =
    let ours = All-tail (IsDirective (length b.machines)) Directive.Settle ds fit in
    settle_out b ds valid ours (all_out b ds valid ours) pt s
all_out b (Directive.Rest k ∷ ds) valid fit pt s =
    let rest = all_out b ds valid (All-tail (IsDirective (length b.machines)) (Directive.Rest k) ds fit) in
    same b pt (between 0 (Directive.Rest k ∷ ds)) (todo [] [] k ds) s (rest_same b pt k ds) (rest_out b k ds valid rest pt s)
