-- Where each link of the boot file keeps to one side, so does everything at the start.
use Rattle.dm_law_always.proofs.Names.{◌≡◌, ℕ, zero, suc, ◌-◌, ◌≤◌, ◌==◌, ◌||◌, Bool, true, false, List, [], ◌∷◌, ◌++◌, length, map, replicate, refl, ap, ◌∙◌, sym, subst, is_some, inl, inr, arith, nat_tests, if◌then◌else◌, slice_get, option_map, option_map_or, slots_of, ◌<◌}
use Rattle.dm_law_always.proofs.Names.{Option, None, Some, cases_Bool, Link, Pid, pid_eq, plain_link, Boot, BootProcess, BootImage, IsValid, Life, Alive, PlainProcess, OneKernel, start, begun, life_at}
use Rattle.dm_law_always.proofs.Names.{switchboard, manager, pid_eq-is, Each, has_bytes, none_some, link_is_valid, leads_to_process, leads_to_server, controls_child, process_named}
use Rattle.std.proofs.Common.{get_or}
use Rattle.std.proofs.lemmas.List.Quantifiers.{position-Some}
use Rattle.dm_onekernel.specs.Manager.{child_numbered}
use Rattle.dm_parts.specs.Laws.{EachKeeps}
use Rattle.dm_parts.specs.Parts.{child_place, joins, parts_of, place_of}
use Rattle.dm_parts.proofs.Places.{LivesAt, lives_at, named_at, numbered, place_self}
use Rattle.dm_parts.proofs.Right.{controls_least, controls_within, leads, links_keep_to_parts, links_valid_at, or_second, processes_valid_at, server_code}
use Rattle.dm_law_always.proofs.Fits.Start.{start_fits}
use Rattle.dm_law_sides.specs.Sides.{Sides, IsOn, Keeping, LinkKeeps, MaybeKeeping, AreaKeeps, is_there}
use Rattle.dm_law_sides.specs.Files.{FileKeeps, FilesKeepToSides, PartsKeep, RunsKeepToParts, part_at, place_at, sides_at}
use Rattle.dm_law_sides.proofs.Runs.{keeps_to_sides}

-- a process of the file, by its place
nobody : BootProcess
nobody = record { pid = switchboard; name = []; image = 0; links = [] }

get_is : (ps : List BootProcess) (n : ℕ) → n < length ps → slice_get ps n ≡ Some (get_or ps n nobody)
get_is [] n lt = absurd (omega (arith, lt))
get_is (p ∷ ps) zero lt = refl
get_is (p ∷ ps) (suc n) lt = get_is ps n (omega (arith, lt))

named_there : (ps : List BootProcess) (q : Pid) (n : ℕ) → place_of ps q ≡ Some n → (p : BootProcess) × (slice_get ps n ≡ Some p) × (pid_eq p.pid q ≡ true)
named_there ps q n e = let at = position-Some (λ (p : BootProcess). pid_eq p.pid q) ps n nobody e in (get_or ps n nobody, get_is ps n at.0, at.1)

place_is : (b : Boot) (q : Pid) (n : ℕ) → place_of b.processes q ≡ Some n → place_at b q ≡ n
place_is b q n e = ap (λ (o : Option ℕ). option_map_or (λ (v : ℕ). v) o (length b.processes)) e

-- no process has the switchboard's name
board_by : (b : Boot) (o : Option ℕ) → IsValid b → place_of b.processes switchboard ≡ o → place_at b switchboard ≡ length b.processes
board_by b None valid e = ap (λ (o : Option ℕ). option_map_or (λ (v : ℕ). v) o (length b.processes)) e
board_by b (Some n) valid e =
    let (p, there, same) = named_there b.processes switchboard n e in
    let least = numbered b [] b.processes switchboard p n valid.processes there same in
    absurd (omega (arith, least))

board_place : (b : Boot) → IsValid b → place_at b switchboard ≡ length b.processes
board_place b valid = board_by b (place_of b.processes switchboard) valid refl

-- each process of the file is there
each_at : {X Y : Type 0} (P : Y → Type 0) (f : X → Y) (xs : List X) (n : ℕ) (x : X) → Each P (map f xs) → slice_get xs n ≡ Some x → P (f x)
each_at P f [] n x h e = none_some x e
each_at P f (y ∷ ys) zero x h e = let same : y ≡ x = cc in subst (λ v. P (f v)) same h.0
each_at P f (y ∷ ys) (suc n) x h e = each_at P f ys n x h.1 e

bytes_there : (n : ℕ) (o : Option Life) → has_bytes n o ≡ true → is_some o ≡ true
bytes_there n None h = h
bytes_there n (Some life) h = refl

or_right : (c d : Bool) → d ≡ true → (c || d) ≡ true
or_right true d h = refl
or_right false d h = h

process_there : (b : Boot) (n : ℕ) (p : BootProcess) → IsValid b → slice_get b.processes n ≡ Some p → is_there (start b) p.pid ≡ true
process_there b n p valid e =
    or_right (pid_eq p.pid switchboard) (is_some (life_at b b.processes p.pid))
    (bytes_there 0 (life_at b b.processes p.pid) (each_at (λ (q : Pid). has_bytes 0 (life_at b b.processes q) ≡ true) (λ (v : BootProcess). v.pid) b.processes n p (start_fits b valid).children e))

process_on : (b : Boot) (side : ℕ → ℕ) (i n : ℕ) (p : BootProcess) → IsValid b → slice_get b.processes n ≡ Some p → side n ≡ i → IsOn (start b) (sides_at b side) i p.pid
process_on b side i n p valid e on = (ap side (place_is b p.pid n (place_self b [] b.processes n p valid.processes e)) ∙ on, process_there b n p valid e)

-- a link of the file
child_at : (ps : List BootProcess) (code n : ℕ) (p : BootProcess) → 1 ≤ code → code - 1 ≡ n → slice_get ps n ≡ Some p → child_numbered (map (λ (v : BootProcess). v.pid) ps) code ≡ Some p.pid
child_at ps zero n p least is e = absurd (omega (arith, least))
child_at ps (suc m) n p least is e =
    let same : m ≡ n = omega (arith, is) in
    ap (slice_get (map (λ (v : BootProcess). v.pid) ps)) same ∙ map_at ps n p e
  where
    map_at : (ps : List BootProcess) (n : ℕ) (p : BootProcess) → slice_get ps n ≡ Some p → slice_get (map (λ (v : BootProcess). v.pid) ps) n ≡ Some p.pid
    map_at [] n p e = cc
    map_at (q ∷ ps) zero p e = let same : q ≡ p = cc in ap (λ (v : BootProcess). Some v.pid) same
    map_at (q ∷ ps) (suc n) p e = map_at ps n p e

some_at : (ps : List BootProcess) (n : ℕ) → n < length ps → (p : BootProcess) × (slice_get ps n ≡ Some p)
some_at ps n lt = (get_or ps n nobody, get_is ps n lt)

module _ (b : Boot) (side : ℕ → ℕ) (i : ℕ) (l : Link) (valid : IsValid b) where
  to_board : l.addr.pid ≡ switchboard → side (length b.processes) ≡ i → LinkKeeps (start b) (sides_at b side) i l.addr.pid l.code
  to_board is on =
      let off : pid_eq l.addr.pid manager ≡ false = ap (λ (q : Pid). pid_eq q manager) is in
      inr (
        l.addr.pid,
        ap (λ (c : Bool). if c then child_numbered (start b).manager.children l.code else Some l.addr.pid) off,
        (ap (λ (q : Pid). side (place_at b q)) is ∙ ap side (board_place b valid) ∙ on, ap (λ (q : Pid). is_there (start b) q) is),
      )

  to_child : l.addr.pid ≡ manager → controls_child b l ≡ true → ((n : ℕ) → child_place l.code ≡ Some n → side n ≡ i) → LinkKeeps (start b) (sides_at b side) i l.addr.pid l.code
  to_child is control on =
      let least = controls_least b l control in
      let most = controls_within b l control in
      let (p, there) = some_at b.processes (l.code - 1) (omega (arith, least, most)) in
      let same : pid_eq l.addr.pid manager ≡ true = ap (λ (q : Pid). pid_eq q manager) is in
      let some : (l.code == 0) ≡ false = grind (arith, nat_tests) in
      let place : child_place l.code ≡ Some (l.code - 1) = ap (λ (c : Bool). if c then None else Some (l.code - 1)) some in
      inr (
        p.pid,
        ap (λ (c : Bool). if c then child_numbered (start b).manager.children l.code else Some l.addr.pid) same ∙ child_at b.processes l.code (l.code - 1) p least refl there,
        process_on b side i (l.code - 1) p valid there (on (l.code - 1) place),
      )

  to_process : pid_eq l.addr.pid manager ≡ false → (o : Option BootProcess) → process_named l.addr.pid b.processes ≡ o → leads_to_process b l o ≡ true → ((n : ℕ) → place_of b.processes l.addr.pid ≡ Some n → side n ≡ i)
      → LinkKeeps (start b) (sides_at b side) i l.addr.pid l.code
  to_process off None is leads on = absurd (let f : false ≡ true = leads in cc)
  to_process off (Some r) is leads on =
      let (n, place) = named_at b.processes l.addr.pid r is in
      let (p, there, same) = named_there b.processes l.addr.pid n place in
      let name : p.pid ≡ l.addr.pid = pid_eq-is p.pid l.addr.pid same in
      inr (
        l.addr.pid,
        ap (λ (c : Bool). if c then child_numbered (start b).manager.children l.code else Some l.addr.pid) off,
        subst (IsOn (start b) (sides_at b side) i) name (process_on b side i n p valid there (on n place)),
      )

  to_manager : l.addr.pid ≡ manager → (leads_to_server l || controls_child b l) ≡ true → ((n : ℕ) → child_place l.code ≡ Some n → side n ≡ i) → LinkKeeps (start b) (sides_at b side) i l.addr.pid l.code
  to_manager is leads on = elim (cases_Bool (leads_to_server l)) [
    | inl server ↦ inl (is, let none = server_code l server in grind (arith, nat_tests))
    | inr control ↦ to_child is (or_second (leads_to_server l) (controls_child b l) control leads) on
  ]

  link_by : (c d : Bool) → pid_eq l.addr.pid switchboard ≡ c → pid_eq l.addr.pid manager ≡ d
      → (if c then leads_to_server l else if d then leads_to_server l || controls_child b l else leads_to_process b l (process_named l.addr.pid b.processes)) ≡ true
      → ((n : ℕ) → (if c then Some (length b.processes) else if d then child_place l.code else place_of b.processes l.addr.pid) ≡ Some n → side n ≡ i) → LinkKeeps (start b) (sides_at b side) i l.addr.pid l.code
  link_by true d is as_ leads on = to_board (pid_eq-is l.addr.pid switchboard is) (on (length b.processes) refl)
  link_by false true is as_ leads on = to_manager (pid_eq-is l.addr.pid manager as_) leads on
  link_by false false is as_ leads on = to_process as_ (process_named l.addr.pid b.processes) refl leads on

  link_keeps : link_is_valid b l ≡ true → ((n : ℕ) → joins b l ≡ Some n → side n ≡ i) → Keeping (start b) (sides_at b side) i (plain_link l)
  unfolding joins
  link_keeps h on = link_by (pid_eq l.addr.pid switchboard) (pid_eq l.addr.pid manager) refl refl (leads b l h) on

-- the links of a process as it begins
empty_keep : (s : OneKernel) (k : Sides) (i n : ℕ) → Each (MaybeKeeping s k i) (replicate n None)
empty_keep s k i zero = tt
empty_keep s k i (suc n) = (tt, empty_keep s k i n)

slots_keep : (s : OneKernel) (k : Sides) (i n : ℕ) (ls : List Link) → ((m : ℕ) (l : Link) → slice_get ls m ≡ Some l → Keeping s k i (plain_link l)) → Each (MaybeKeeping s k i) (map Some (map plain_link ls) ++ replicate n None)
slots_keep s k i n [] f = empty_keep s k i n
slots_keep s k i n (l ∷ ls) f = (f 0 l refl, slots_keep s k i n ls (λ m x e. f (suc m) x e))

begun_of : (b : Boot) (p : BootProcess) (o : Option BootImage) (x : PlainProcess) → option_map (λ (image : BootImage). Alive (begun b.format image (map plain_link p.links))) o ≡ Some (Alive x) → (image : BootImage) × (begun b.format image (map plain_link p.links) ≡ x)
begun_of b p None x e = cc
begun_of b p (Some image) x e = let same : begun b.format image (map plain_link p.links) ≡ x = cc in (image, same)

process_keeps : (b : Boot) (side : ℕ → ℕ) (q : Pid) (x : PlainProcess) → IsValid b → EachKeeps b side → LivesAt b b.processes q (Alive x)
    → Each (MaybeKeeping (start b) (sides_at b side) ((sides_at b side).of q)) x.links × AreaKeeps (start b) (sides_at b side) ((sides_at b side).of q) x.status
process_keeps b side q x valid keeps h =
    let k = sides_at b side in
    let (image, same) = begun_of b h.process (slice_get b.images h.process.image) x h.begins in
    let of : side h.number ≡ k.of q = sym (ap side (place_is b q h.number h.place)) in
    let valid_at = processes_valid_at b [] b.processes h.number h.process valid.processes h.there in
    let link : (m : ℕ) (l : Link) → slice_get h.process.links m ≡ Some l → Keeping (start b) k (k.of q) (plain_link l) =
    λ m l held. link_keeps b side (k.of q) l valid (links_valid_at b h.process.links m l valid_at held)
    (λ other j. sym (keeps h.number other (record { process = h.process; holder = h.there; slot = m; link = l; held = held; joins = j })) ∙ of) in
    subst (λ (y : PlainProcess). Each (MaybeKeeping (start b) k (k.of q)) y.links × AreaKeeps (start b) k (k.of q) y.status) same
    (slots_keep (start b) k (k.of q) (slots_of b.format - length (map plain_link h.process.links)) h.process.links link, tt)

pub file_keeps : FileKeeps
file_keeps b side valid keeps = record {
  links = λ q x e. (process_keeps b side q x valid keeps (lives_at b b.processes q (Alive x) e)).0;
  areas = λ q x e. (process_keeps b side q x valid keeps (lives_at b b.processes q (Alive x) e)).1;
  messages = λ id m e. absurd (let f : None ≡ Some m = e in cc);
  names = tt;
  requests = tt;
  notes = λ p n e. absurd (let f : None ≡ Some n = e in cc);
}

pub files_keep_to_sides : FilesKeepToSides
files_keep_to_sides b side ls s valid keeps is = keeps_to_sides b ls s (sides_at b side) valid (file_keeps b side valid keeps) is

-- the parts of a file
part_is : (b : Boot) (place number : ℕ) → slice_get (parts_of b) place ≡ Some number → part_at b place ≡ number
part_is b place number e = ap (λ (o : Option ℕ). option_map_or (λ (n : ℕ). n) o 0) e

pub parts_keep : PartsKeep
parts_keep b valid place other j =
    let same = links_keep_to_parts b place other valid j in
    part_is b place same.number same.first ∙ sym (part_is b other same.number same.second)

pub runs_keep_to_parts : RunsKeepToParts
runs_keep_to_parts b ls s valid is = files_keep_to_sides b (part_at b) ls s valid (parts_keep b valid) is
