-- Packets that are put and marked, place by place.
use Rattle.dm_stream.proofs.Names.{◌≡◌, ℕ, zero, suc, ◌<◌, true, List, [], ◌∷◌, ◌++◌, length, Some, refl, inl, inr, ◌⊎◌, arith, Load, Packet, just_put, marked, load_at, delivered_at}

module _ {M : Type 0} where
  -- a packet of the longer list was there, or is the last
  pub load-pushed : (xs : List (Packet M)) (p : Packet M) (k : ℕ) (l : Load M) → load_at (xs ++ p ∷ []) k ≡ Some l → (load_at xs k ≡ Some l) ⊎ (p.load ≡ l)
  unfolding load_at
  load-pushed [] p zero l e = inr cc
  load-pushed [] p (suc k) l e = cc
  load-pushed (x ∷ xs) p zero l e = inl e
  load-pushed (x ∷ xs) p (suc k) l e = load-pushed xs p k l e

  -- what was there stays
  pub load-longer : (xs ys : List (Packet M)) (k : ℕ) (l : Load M) → load_at xs k ≡ Some l → load_at (xs ++ ys) k ≡ Some l
  unfolding load_at
  load-longer [] ys k l e = cc
  load-longer (x ∷ xs) ys zero l e = e
  load-longer (x ∷ xs) ys (suc k) l e = load-longer xs ys k l e

  -- the packet that was just put
  pub load-last : (xs : List (Packet M)) (p : Packet M) → load_at (xs ++ p ∷ []) (length xs) ≡ Some p.load
  unfolding load_at
  load-last [] p = refl
  load-last (x ∷ xs) p = load-last xs p

  -- it wasn't delivered
  pub delivered-pushed : (xs : List (Packet M)) (l : Load M) (k : ℕ) → delivered_at (xs ++ just_put l ∷ []) k ≡ delivered_at xs k
  unfolding delivered_at
  delivered-pushed [] l zero = refl
  delivered-pushed [] l (suc k) = refl
  delivered-pushed (x ∷ xs) l zero = refl
  delivered-pushed (x ∷ xs) l (suc k) = delivered-pushed xs l k

  -- a mark leaves what packets carry
  pub load-marked : (xs : List (Packet M)) (j k : ℕ) → load_at (marked xs j) k ≡ load_at xs k
  unfolding load_at
  load-marked [] j k = refl
  load-marked (x ∷ xs) zero zero = refl
  load-marked (x ∷ xs) zero (suc k) = refl
  load-marked (x ∷ xs) (suc j) zero = refl
  load-marked (x ∷ xs) (suc j) (suc k) = load-marked xs j k

  -- no other packet is marked
  pub delivered-marked : (xs : List (Packet M)) (j k : ℕ) → delivered_at (marked xs j) k ≡ true → (delivered_at xs k ≡ true) ⊎ (k ≡ j)
  unfolding delivered_at
  delivered-marked [] j k e = inl e
  delivered-marked (x ∷ xs) zero zero e = inr refl
  delivered-marked (x ∷ xs) zero (suc k) e = inl e
  delivered-marked (x ∷ xs) (suc j) zero e = inl e
  delivered-marked (x ∷ xs) (suc j) (suc k) e = grind (arith, delivered-marked xs j k e)

  -- what was delivered stays so
  pub delivered-stays : (xs : List (Packet M)) (j k : ℕ) → delivered_at xs k ≡ true → delivered_at (marked xs j) k ≡ true
  unfolding delivered_at
  delivered-stays [] j k e = e
  delivered-stays (x ∷ xs) zero zero e = refl
  delivered-stays (x ∷ xs) zero (suc k) e = e
  delivered-stays (x ∷ xs) (suc j) zero e = e
  delivered-stays (x ∷ xs) (suc j) (suc k) e = delivered-stays xs j k e

  -- the packet that is marked was delivered
  pub delivered-here : (xs : List (Packet M)) (k : ℕ) (l : Load M) → load_at xs k ≡ Some l → delivered_at (marked xs k) k ≡ true
  unfolding load_at delivered_at
  delivered-here [] k l e = cc
  delivered-here (x ∷ xs) zero l e = refl
  delivered-here (x ∷ xs) (suc k) l e = delivered-here xs k l e

  -- a packet that is there is within the list
  pub load-within : (xs : List (Packet M)) (k : ℕ) (l : Load M) → load_at xs k ≡ Some l → k < length xs
  unfolding load_at
  load-within [] k l e = cc
  load-within (x ∷ xs) zero l e = omega arith
  load-within (x ∷ xs) (suc k) l e = let h : k < length xs = load-within xs k l e in omega arith

  -- a packet that was delivered isn't the one that was just put
  pub come-pushed : (xs : List (Packet M)) (p l : Load M) (k : ℕ) → load_at (xs ++ just_put p ∷ []) k ≡ Some l → delivered_at (xs ++ just_put p ∷ []) k ≡ true → load_at xs k ≡ Some l
  unfolding load_at delivered_at
  come-pushed [] p l zero e on = cc
  come-pushed [] p l (suc k) e on = cc
  come-pushed (x ∷ xs) p l zero e on = e
  come-pushed (x ∷ xs) p l (suc k) e on = come-pushed xs p l k e on

  -- nothing was put yet
  pub load-none : (k : ℕ) (l : Load M) → load_at [] k ≡ Some l → ⊥
  unfolding load_at
  load-none zero l e = cc
  load-none (suc k) l e = cc
