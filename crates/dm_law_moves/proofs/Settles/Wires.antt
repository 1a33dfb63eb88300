-- Packets of a wire: what is put there, and what is delivered.
use Rattle.dm_law_moves.proofs.Names.{◌≡◌, ◌⊎◌, ℕ, zero, suc, ◌+◌, Bool, true, false, List, [], ◌∷◌, ◌++◌, refl, ap, ◌∙◌, sym, inl, inr, if◌then◌else◌, slice_get, slice_set, Option, None, Some, false≢true, Load, first_undelivered}
use Rattle.dm_law_moves.proofs.Names.{SentLoad, marked_at, HasCome, HasPacket}

-- a packet that is put
abbrev pub new_packet : Load → SentLoad
new_packet l = record { load = l; delivered = false }

pub has_put : (ss : List SentLoad) (s : SentLoad) (l : Load) → HasPacket ss l → HasPacket (ss ++ s ∷ []) l
has_put [] s l h = absurd h
has_put (t ∷ ss) s l (inl e) = inl e
has_put (t ∷ ss) s l (inr h) = inr (has_put ss s l h)

pub has_last : (ss : List SentLoad) (l : Load) → HasPacket (ss ++ new_packet l ∷ []) l
has_last [] l = inl refl
has_last (t ∷ ss) l = inr (has_last ss l)

pub come_put : (ss : List SentLoad) (l k : Load) → HasCome (ss ++ new_packet l ∷ []) k → HasCome ss k
come_put [] l k (inl e) = absurd (false≢true e.1)
come_put [] l k (inr h) = absurd h
come_put (t ∷ ss) l k (inl e) = inl e
come_put (t ∷ ss) l k (inr h) = inr (come_put ss l k h)

-- a packet that is delivered
has_set : (ss : List SentLoad) (k : ℕ) (s : SentLoad) (l : Load) → slice_get ss k ≡ Some s → HasPacket ss l → HasPacket (slice_set ss k (record s { delivered = true })) l
has_set [] k s l e h = absurd h
has_set (t ∷ ss) zero s l e (inl is) = let same : t ≡ s = cc in inl (sym (ap (λ (x : SentLoad). x.load) same) ∙ is)
has_set (t ∷ ss) zero s l e (inr h) = inr h
has_set (t ∷ ss) (suc k) s l e (inl is) = inl is
has_set (t ∷ ss) (suc k) s l e (inr h) = inr (has_set ss k s l e h)

come_set : (ss : List SentLoad) (k : ℕ) (s : SentLoad) (l : Load) → HasCome (slice_set ss k (record s { delivered = true })) l → HasCome ss l ⊎ (s.load ≡ l)
come_set [] k s l h = absurd h
come_set (t ∷ ss) zero s l (inl e) = inr e.0
come_set (t ∷ ss) zero s l (inr h) = inl (inr h)
come_set (t ∷ ss) (suc k) s l (inl e) = inl (inl e)
come_set (t ∷ ss) (suc k) s l (inr h) = elim (come_set ss k s l h) [ inl g ↦ inl (inr g) | inr g ↦ inr g ]

pub has_marked : (ss : List SentLoad) (k : ℕ) (o : Option SentLoad) (l : Load) → slice_get ss k ≡ o → HasPacket ss l → HasPacket (marked_at ss k o) l
has_marked ss k None l e h = h
has_marked ss k (Some s) l e h = has_set ss k s l e h

pub come_marked : (ss : List SentLoad) (k : ℕ) (s : SentLoad) (l : Load) → HasCome (marked_at ss k (Some s)) l → HasCome ss l ⊎ (s.load ≡ l)
come_marked ss k s l h = come_set ss k s l h

-- where no packet is left to be delivered, each was
all_come_by : (s : SentLoad) (ss : List SentLoad) (j : ℕ) (l : Load) (b : Bool) → s.delivered ≡ b → (if b then first_undelivered (j + 1) ss else Some j) ≡ None → (s.load ≡ l) ⊎ HasPacket ss l → (first_undelivered (j + 1) ss ≡ None → HasPacket ss l → HasCome ss l) → HasCome (s ∷ ss) l
all_come_by s ss j l true is e (inl h) more = inl (h, is)
all_come_by s ss j l true is e (inr h) more = inr (more e h)
all_come_by s ss j l false is e h more = cc

pub all_come : (ss : List SentLoad) (j : ℕ) (l : Load) → first_undelivered j ss ≡ None → HasPacket ss l → HasCome ss l
all_come [] j l e h = absurd h
all_come (s ∷ ss) j l e h = all_come_by s ss j l s.delivered refl e h (λ f g. all_come ss (j + 1) l f g)
