-- What each way of changing a kernel keeps of a process that nobody can reach.
use Rattle.dm_law_one.proofs.Names.{◌≡◌, ℕ, ◌+◌, ◌&&◌, ◌||◌, Bool, true, false, refl, ap, ◌∙◌, sym, subst, inl, inr, arith, nat_tests, if◌then◌else◌, List, [], ◌∷◌, ◌++◌, slice_get, Option, None, Some, cases_Bool, Pid, pid_eq, MsgId, PlainLink, PlainMessage, PlainWhat}
use Rattle.dm_law_one.proofs.Names.{Alive, Ended, MoveNote, OneKernel, Manager, Switchboard, Pending, PlainProcess, with_process, with_sent, with_note, without_note, without_message, manager, first_empty, link_at, option_map_or}
use Rattle.dm_law_one.proofs.Movers.{stayed, came}
use Rattle.dm_onekernel.specs.Kernel.{NamedLink}
use Rattle.dm_onekernel.specs.Calls as calls
use Rattle.dm_onekernel.specs.Receiving as receiving
use Rattle.std.specs.Prelude.{zero, suc, slice_set, filter_map}
use Rattle.dm_law_always.specs.Fits.{Each}
use Rattle.dm_law_alike.specs.Private.{is_numbered, Spared, MaybeSpared, OwnerSpared, MessageSpares, IsSpared}

pub set_each : {X : Type 0} (P : X → Type 0) (xs : List X) (n : ℕ) (x : X) → P x → Each P xs → Each P (slice_set xs n x)
set_each P [] n x f h = tt
set_each P (y ∷ ys) zero x f h = (f, h.1)
set_each P (y ∷ ys) (suc n) x f h = (h.0, set_each P ys n x f h.1)

-- of a list of slots
pub at_spared : (cs : List Pid) (p : Pid) (slots : List (Option PlainLink)) (n : ℕ) → Each (MaybeSpared cs p) slots → MaybeSpared cs p (link_at slots n)
at_spared cs p [] n h = tt
at_spared cs p (x ∷ xs) zero h = h.0
at_spared cs p (x ∷ xs) (suc n) h = at_spared cs p xs n h.1

pub slot_spared : (cs : List Pid) (p : Pid) (slots : List (Option PlainLink)) (n : ℕ) (l : PlainLink) → link_at slots n ≡ Some l → Each (MaybeSpared cs p) slots → Spared cs p l
slot_spared cs p slots n l e h = subst (MaybeSpared cs p) e (at_spared cs p slots n h)

emptied : (cs : List Pid) (p : Pid) (b : Bool) (slots : List (Option PlainLink)) (n : ℕ) → Each (MaybeSpared cs p) slots → Each (MaybeSpared cs p) (if b then slice_set slots n None else slots)
emptied cs p true slots n h = set_each (MaybeSpared cs p) slots n None tt h
emptied cs p false slots n h = h

pub without_spared : (cs : List Pid) (p : Pid) (ns : List ℕ) (slots : List (Option PlainLink)) → Each (MaybeSpared cs p) slots → Each (MaybeSpared cs p) (calls.without_replies slots ns)
without_spared cs p [] slots h = h
without_spared cs p (n ∷ ns) slots h =
    without_spared cs p ns (if calls.holds_reply (link_at slots n) then slice_set slots n None else slots) (emptied cs p (calls.holds_reply (link_at slots n)) slots n h)

cons_spared : (cs : List Pid) (p : Pid) (slots : List (Option PlainLink)) (ns : List ℕ) (n : ℕ) (o : Option PlainLink) → link_at slots n ≡ o → MaybeSpared cs p o → Each (Spared cs p) (filter_map (link_at slots) ns) → Each (Spared cs p) (filter_map (link_at slots) (n ∷ ns))
cons_spared cs p slots ns n o e f h = search (arith, link_at slots n)

pub links_spared : (cs : List Pid) (p : Pid) (slots : List (Option PlainLink)) (ns : List ℕ) → Each (MaybeSpared cs p) slots → Each (Spared cs p) (filter_map (link_at slots) ns)
links_spared cs p slots [] h = tt
links_spared cs p slots (n ∷ ns) h = cons_spared cs p slots ns n (link_at slots n) refl (at_spared cs p slots n h) (links_spared cs p slots ns h)

into_spared : (cs : List Pid) (p : Pid) (t : receiving.RegsAndLinks) (r : ℕ) (l : PlainLink) (o : Option ℕ) → Spared cs p l → Each (MaybeSpared cs p) t.links → Each (MaybeSpared cs p) (receiving.place_into t r l o).links
into_spared cs p t r l None f h = h
into_spared cs p t r l (Some slot) f h = set_each (MaybeSpared cs p) t.links slot (Some l) f h

pub placed_spared : (cs : List Pid) (p : Pid) (ls : List PlainLink) (t : receiving.RegsAndLinks) (r : ℕ) → Each (Spared cs p) ls → Each (MaybeSpared cs p) t.links → Each (MaybeSpared cs p) (receiving.place_links t r ls).links
placed_spared cs p [] t r f h = h
placed_spared cs p (l ∷ ls) t r f h = placed_spared cs p ls (receiving.place_into t r l (first_empty t.links)) (r + 1) f.1 (into_spared cs p t r l (first_empty t.links) f.0 h)

-- a link that a process makes to itself spares another
pub own_spared : (cs : List Pid) (p q : Pid) (x : PlainProcess) → pid_eq p q ≡ false → pid_eq q manager ≡ false → Spared cs p (calls.own_link q x)
own_spared cs p q x apart server = grind (arith, nat_tests)

-- what a spared link leads to isn't p's memory
pub right_spared : (cs : List Pid) (p : Pid) (l : PlainLink) → (l.area.read || l.area.write) ≡ true → Spared cs p l → pid_eq p l.to ≡ false
right_spared cs p l right h = grind (arith, nat_tests)

-- a user message over a spared link
pub over_spared : (cs : List Pid) (p : Pid) (l : PlainLink) → Spared cs p l → (pid_eq l.to manager && is_numbered cs l.code p) ≡ false
over_spared cs p l h = grind (arith, nat_tests)

-- a message goes
pub spared_out : (s : OneKernel) (p : Pid) (id : MsgId) → IsSpared s p → IsSpared (without_message s id) p
spared_out s p id h = record {
  tables = h.tables;
  movers = h.movers;
  messages = λ i m is. h.messages i m (stayed s id i m is);
  names = h.names;
  answers = h.answers;
}

-- a message comes
pub spared_put : (s : OneKernel) (p : Pid) (m : PlainMessage) → MessageSpares s.manager.children p m m.what → IsSpared s p → IsSpared (with_sent s (Some m)) p
spared_put s p m new h = record {
  tables = h.tables;
  movers = h.movers;
  messages = λ i x is. elim (came s m x i is) [
    | inl e ↦ subst (λ (v : PlainMessage). MessageSpares s.manager.children p v v.what) e.0 new
    | inr was ↦ h.messages i x was
  ];
  names = h.names;
  answers = h.answers;
}

-- another process goes on
pub spared_set : (s : OneKernel) (p q : Pid) (y : PlainProcess) → Each (MaybeSpared s.manager.children p) y.links → OwnerSpared p y.status → IsSpared s p → IsSpared (with_process s q (Alive y)) p
spared_set s p q y links owner h = record {
  tables = λ z x apart is. elim (cases_Bool (pid_eq q z)) [
    | inl same ↦
        let e : Some (Alive y) ≡ Some (Alive x) = sym (ap (λ (b : Bool). if b then Some (Alive y) else s.processes z) same) ∙ is in
        let f : y ≡ x = cc in
        subst (λ (v : PlainProcess). Each (MaybeSpared s.manager.children p) v.links) f links
    | inr off ↦ h.tables z x apart (sym (ap (λ (b : Bool). if b then Some (Alive y) else s.processes z) off) ∙ is)
  ];
  movers = λ z x apart is. elim (cases_Bool (pid_eq q z)) [
    | inl same ↦
        let e : Some (Alive y) ≡ Some (Alive x) = sym (ap (λ (b : Bool). if b then Some (Alive y) else s.processes z) same) ∙ is in
        let f : y ≡ x = cc in
        subst (λ (v : PlainProcess). OwnerSpared p v.status) f owner
    | inr off ↦ h.movers z x apart (sym (ap (λ (b : Bool). if b then Some (Alive y) else s.processes z) off) ∙ is)
  ];
  messages = h.messages;
  names = h.names;
  answers = h.answers;
}

-- a process ends
pub spared_end : (s : OneKernel) (p q : Pid) (y : _) → IsSpared s p → IsSpared (with_process s q (Ended y)) p
spared_end s p q y h = record {
  tables = λ z x apart is. elim (cases_Bool (pid_eq q z)) [
    | inl same ↦ absurd (let e : Some (Ended y) ≡ Some (Alive x) = sym (ap (λ (b : Bool). if b then Some (Ended y) else s.processes z) same) ∙ is in cc)
    | inr off ↦ h.tables z x apart (sym (ap (λ (b : Bool). if b then Some (Ended y) else s.processes z) off) ∙ is)
  ];
  movers = λ z x apart is. elim (cases_Bool (pid_eq q z)) [
    | inl same ↦ absurd (let e : Some (Ended y) ≡ Some (Alive x) = sym (ap (λ (b : Bool). if b then Some (Ended y) else s.processes z) same) ∙ is in cc)
    | inr off ↦ h.movers z x apart (sym (ap (λ (b : Bool). if b then Some (Ended y) else s.processes z) off) ∙ is)
  ];
  messages = h.messages;
  names = h.names;
  answers = h.answers;
}

pub spared_note : (s : OneKernel) (p q : Pid) (n : MoveNote) → IsSpared s p → IsSpared (with_note s q n) p
spared_note s p q n h = record { tables = h.tables; movers = h.movers; messages = h.messages; names = h.names; answers = h.answers }

pub spared_unnote : (s : OneKernel) (p q : Pid) (id : MsgId) → IsSpared s p → IsSpared (without_note s q id) p
spared_unnote s p q id h = record { tables = h.tables; movers = h.movers; messages = h.messages; names = h.names; answers = h.answers }

pub spared_made : (s : OneKernel) (p : Pid) (made : ℕ → ℕ) → IsSpared s p → IsSpared (record s { made = made }) p
spared_made s p made h = record { tables = h.tables; movers = h.movers; messages = h.messages; names = h.names; answers = h.answers }

pub spared_board : (s : OneKernel) (p : Pid) (b : Switchboard) → Each (λ (k : NamedLink). Spared s.manager.children p k.link) b.names → IsSpared s p → IsSpared (record s { switchboard = b }) p
spared_board s p b names h = record { tables = h.tables; movers = h.movers; messages = h.messages; names = names; answers = h.answers }

pub spared_manager : (s : OneKernel) (p : Pid) (g : Manager) → g.children ≡ s.manager.children → Each (λ (r : Pending). MaybeSpared g.children p r.answer) g.pending → IsSpared s p → IsSpared (record s { manager = g }) p
spared_manager s p g same answers h = record {
  tables = λ q x apart is. subst (λ cs. Each (MaybeSpared cs p) x.links) (sym same) (h.tables q x apart is);
  movers = h.movers;
  messages = λ i m is. subst (λ cs. MessageSpares cs p m m.what) (sym same) (h.messages i m is);
  names = subst (λ cs. Each (λ (k : NamedLink). Spared cs p k.link) s.switchboard.names) (sym same) h.names;
  answers = answers;
}

-- one more child, which isn't p
numbered_last : (cs : List Pid) (n : ℕ) (p c : Pid) → pid_eq p c ≡ false → option_map_or (λ v. pid_eq p v) (slice_get (cs ++ c ∷ []) n) false ≡ option_map_or (λ v. pid_eq p v) (slice_get cs n) false
numbered_last [] zero p c e = e
numbered_last [] (suc n) p c e = refl
numbered_last (x ∷ xs) zero p c e = refl
numbered_last (x ∷ xs) (suc n) p c e = numbered_last xs n p c e

pub numbered_more : (cs : List Pid) (code : ℕ) (p c : Pid) → pid_eq p c ≡ false → is_numbered (cs ++ c ∷ []) code p ≡ is_numbered cs code p
numbered_more cs zero p c e = refl
numbered_more cs (suc n) p c e = numbered_last cs n p c e

pub acts_more : (cs : List Pid) (p c : Pid) (l : PlainLink) → pid_eq p c ≡ false → Spared cs p l → Spared (cs ++ c ∷ []) p l
acts_more cs p c l e h = ap (λ b. (pid_eq p l.to && (l.to_kernel || (l.area.read || l.area.write))) || (pid_eq l.to manager && b)) (numbered_more cs l.code p c e) ∙ h

maybe_more : (cs : List Pid) (p c : Pid) (o : Option PlainLink) → pid_eq p c ≡ false → MaybeSpared cs p o → MaybeSpared (cs ++ c ∷ []) p o
maybe_more cs p c None e h = tt
maybe_more cs p c (Some l) e h = acts_more cs p c l e h

each_on : {X : Type 0} (P Q : X → Type 0) → ((x : X) → P x → Q x) → (xs : List X) → Each P xs → Each Q xs
each_on P Q f [] h = tt
each_on P Q f (x ∷ xs) h = (f x h.0, each_on P Q f xs h.1)

spares_more : (cs : List Pid) (p c : Pid) (m : PlainMessage) (w : PlainWhat) → pid_eq p c ≡ false → MessageSpares cs p m w → MessageSpares (cs ++ c ∷ []) p m w
spares_more cs p c m (PlainWhat.User code channel body links) e h =
    (ap (λ b. pid_eq m.to manager && b) (numbered_more cs code p c e) ∙ h.0, each_on (Spared cs p) (Spared (cs ++ c ∷ []) p) (λ l k. acts_more cs p c l e k) links h.1)
spares_more cs p c m (PlainWhat.Create image links) e h = (h.0, each_on (Spared cs p) (Spared (cs ++ c ∷ []) p) (λ l k. acts_more cs p c l e k) links h.1)
spares_more cs p c m (PlainWhat.Created child) e h = h
spares_more cs p c m PlainWhat.Stop e h = h
spares_more cs p c m PlainWhat.Resume e h = h
spares_more cs p c m PlainWhat.Kill e h = h
spares_more cs p c m (PlainWhat.Read base len) e h = h
spares_more cs p c m (PlainWhat.Write base bytes) e h = h
spares_more cs p c m (PlainWhat.Block bytes) e h = h
spares_more cs p c m PlainWhat.Written e h = h
spares_more cs p c m PlainWhat.Gone e h = h
spares_more cs p c m PlainWhat.NoRoom e h = h
spares_more cs p c m (PlainWhat.Move machine) e h = h
spares_more cs p c m (PlainWhat.Moved outcome) e h = h

pub answers_more : (cs : List Pid) (p c : Pid) (rs : List Pending) → pid_eq p c ≡ false → Each (λ (r : Pending). MaybeSpared cs p r.answer) rs → Each (λ (r : Pending). MaybeSpared (cs ++ c ∷ []) p r.answer) rs
answers_more cs p c rs e h = each_on (λ (r : Pending). MaybeSpared cs p r.answer) (λ (r : Pending). MaybeSpared (cs ++ c ∷ []) p r.answer) (λ r k. maybe_more cs p c r.answer e k) rs h

-- the manager has one more child, which isn't p
pub spared_child : (s : OneKernel) (p c : Pid) (g : Manager) → pid_eq p c ≡ false → g.children ≡ s.manager.children ++ c ∷ [] → Each (λ (r : Pending). MaybeSpared g.children p r.answer) g.pending → IsSpared s p → IsSpared (record s { manager = g }) p
spared_child s p c g apart more answers h = record {
  tables = λ q x off is. subst (λ cs. Each (MaybeSpared cs p) x.links) (sym more) (each_on (MaybeSpared s.manager.children p) (MaybeSpared (s.manager.children ++ c ∷ []) p) (λ o k. maybe_more s.manager.children p c o apart k) x.links (h.tables q x off is));
  movers = h.movers;
  messages = λ i m is. subst (λ cs. MessageSpares cs p m m.what) (sym more) (spares_more s.manager.children p c m m.what apart (h.messages i m is));
  names = subst (λ cs. Each (λ (k : NamedLink). Spared cs p k.link) s.switchboard.names) (sym more)
      (each_on (λ (k : NamedLink). Spared s.manager.children p k.link) (λ (k : NamedLink). Spared (s.manager.children ++ c ∷ []) p k.link) (λ k f. acts_more s.manager.children p c k.link apart f) s.switchboard.names h.names);
  answers = answers;
}
