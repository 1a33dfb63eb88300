-- What went out was sent, what has come is there, and what was heard is acknowledged.
use Rattle.dm_stream.proofs.Names.{◌≡◌, ◌≢◌, ◌∙◌, sym, subst, ℕ, ◌+◌, ◌-◌, ◌<◌, ◌≤◌, nat_lt, max, Bool, true, false, List, [], ◌∷◌, ◌++◌, length, Option, Some, None, is_some, refl, inl, inr, ◌⊎◌, arith, cases_Bool, cases_eq, nat_tests}
use Rattle.dm_stream.proofs.Names.{Sending, due, outstanding, place, Load, Data, Ack, Packet, just_put, marked, load_at, delivered_at, HasData, HasHeard, Stream, Event, Give, GoOut, GoAgain, Deliver, TakeKept, Acknowledge, DeliverBack}
use Rattle.dm_stream.proofs.Names.{OtherAck, OtherData, happens, is_worn, gives, data_packet, goes_out, goes_again, arrives, hears}
use Rattle.dm_stream.proofs.Counts.{Within}
use Rattle.dm_stream.proofs.Packets.{load-marked, load-longer, load-last, come-pushed, delivered-pushed, delivered-marked, delivered-stays, delivered-here}
use Rattle.dm_stream.proofs.Places.{place-moved_up, place-kept_same, place-kept_other}

up-to : (n g : ℕ) → n < g + 1 → (n < g) ⊎ (n ≡ g)
up-to n g lt = elim (cases_eq n g) [
  | inl same ↦ inr same
  | inr other ↦ inl (omega arith)
]

max-is : (a n : ℕ) → (max a n ≡ a) ⊎ (max a n ≡ n)
max-is a n = elim (cases_Bool (nat_lt a n)) [
  | inl less ↦ inr (grind (arith, nat_tests))
  | inr not_less ↦ inl (grind (arith, nat_tests))
]

module _ {M : Type 0} where
  pub record Progress (w : Stream M) : Type 0 where
    pub sent : (n : ℕ) → n < w.sender.gone → (m : M) × HasData w.out n m
    pub came : (k n : ℕ) (m : M) → load_at w.out k ≡ Some (Data n m) → delivered_at w.out k ≡ true → w.receiver.count ≤ n → is_some (place w.receiver.kept (n - w.receiver.count)) ≡ true
    pub heard : (k n : ℕ) → load_at w.back k ≡ Some (Ack n) → delivered_at w.back k ≡ true → n ≤ w.sender.acked
    pub acked : (w.sender.acked ≡ 0) ⊎ HasHeard w.back w.sender.acked

  -- what was sent stays sent
  pub out-stays : (w : Stream M) (e : Event M) (k : ℕ) (l : Load M) → load_at w.out k ≡ Some l → load_at (happens w e).out k ≡ Some l
  out-stays w e k l is = grind (arith, nat_tests, load-longer, load-marked)

  pub back-stays : (w : Stream M) (e : Event M) (k : ℕ) (l : Load M) → load_at w.back k ≡ Some l → load_at (happens w e).back k ≡ Some l
  back-stays w e k l is = grind (arith, nat_tests, load-longer, load-marked)

  pub came-happens : (w : Stream M) (e : Event M) → Within w → length w.receiver.kept ≡ 8 → w.sender.gone ≤ w.receiver.count + 8 → Progress w → (k n : ℕ) (m : M) → load_at (happens w e).out k ≡ Some (Data n m) → delivered_at (happens w e).out k ≡ true → (happens w e).receiver.count ≤ n → is_some (place (happens w e).receiver.kept (n - (happens w e).receiver.count)) ≡ true
  came-happens w e b places near h k n m is on le = grind (arith, nat_tests, come-pushed, load-marked, delivered-pushed, delivered-marked, place-moved_up, place-kept_same, place-kept_other, b.packets, h.came)

  pub heard-happens : (w : Stream M) (e : Event M) → Progress w → (k n : ℕ) → load_at (happens w e).back k ≡ Some (Ack n) → delivered_at (happens w e).back k ≡ true → n ≤ (happens w e).sender.acked
  heard-happens w e h k n is on = grind (arith, nat_tests, come-pushed, load-marked, delivered-pushed, delivered-marked, h.heard)

  -- a packet more is sent, with the number that comes next
  sent-pushed : (w : Stream M) (p : ℕ × M) (n : ℕ) → Progress w → p.0 ≡ w.sender.gone → (n < w.sender.gone) ⊎ (n ≡ w.sender.gone) → (m : M) × HasData (w.out ++ data_packet p ∷ []) n m
  sent-pushed w p n h e (inl lt) = let s : (m : M) × HasData w.out n m = h.sent n lt in (s.0, (s.1.0, load-longer w.out (data_packet p ∷ []) s.1.0 (Data n s.0) s.1.1))
  sent-pushed w p n h e (inr is) = (p.1, (length w.out, subst (λ (j : ℕ). load_at (w.out ++ data_packet p ∷ []) (length w.out) ≡ Some (Data j p.1)) (e ∙ sym is) (load-last w.out (data_packet p))))

  due-next : (s : Sending M) (p : ℕ × M) → due s ≡ Some p → p.0 ≡ s.gone
  due-next s p is = grind (arith, nat_tests)

  sent-goes : (w : Stream M) (o : Option (ℕ × M)) → ((p : ℕ × M) → o ≡ Some p → p.0 ≡ w.sender.gone) → Progress w → (n : ℕ) → n < (goes_out w o).sender.gone → (m : M) × HasData (goes_out w o).out n m
  sent-goes w None next h n lt = h.sent n lt
  sent-goes w (Some p) next h n lt = sent-pushed w p n h (next p refl) (up-to n w.sender.gone lt)

  gone-same : (w : Stream M) (e : Event M) → e ≢ GoOut → (happens w e).sender.gone ≡ w.sender.gone
  gone-same w e other = grind (arith, nat_tests)

  sent-same : (w : Stream M) (e : Event M) → e ≢ GoOut → Progress w → (n : ℕ) → n < (happens w e).sender.gone → (m : M) × HasData (happens w e).out n m
  sent-same w e other h n lt =
      let s : (m : M) × HasData w.out n m = h.sent n (omega (arith, gone-same w e other)) in
      (s.0, (s.1.0, out-stays w e s.1.0 (Data n s.0) s.1.1))

  -- each number below the count gone out has a packet
  pub sent-happens : (w : Stream M) (e : Event M) → Progress w → (n : ℕ) → n < (happens w e).sender.gone → (m : M) × HasData (happens w e).out n m
  sent-happens w (Give x) h = sent-same w (Give x) (λ e. cc) h
  sent-happens w GoOut h = sent-goes w (due w.sender) (due-next w.sender) h
  sent-happens w (GoAgain j) h = sent-same w (GoAgain j) (λ e. cc) h
  sent-happens w (Deliver j) h = sent-same w (Deliver j) (λ e. cc) h
  sent-happens w TakeKept h = sent-same w TakeKept (λ e. cc) h
  sent-happens w Acknowledge h = sent-same w Acknowledge (λ e. cc) h
  sent-happens w (DeliverBack j) h = sent-same w (DeliverBack j) (λ e. cc) h
  sent-happens w (OtherAck j) h = sent-same w (OtherAck j) (λ e. cc) h
  sent-happens w (OtherData j x) h = sent-same w (OtherData j x) (λ e. cc) h

  -- zero, or a count that was heard
  abbrev Counted : List (Packet M) → ℕ → Type 0
  Counted wire n = (n ≡ 0) ⊎ HasHeard wire n

  counted-pushed : (wire : List (Packet M)) (l : Load M) (n : ℕ) → Counted wire n → Counted (wire ++ just_put l ∷ []) n
  counted-pushed wire l n (inl z) = inl z
  counted-pushed wire l n (inr a) = inr (a.0, (load-longer wire (just_put l ∷ []) a.0 (Ack n) a.1.0, delivered-pushed wire l a.0 ∙ a.1.1))

  counted-marked : (wire : List (Packet M)) (j n : ℕ) → Counted wire n → Counted (marked wire j) n
  counted-marked wire j n (inl z) = inl z
  counted-marked wire j n (inr a) = inr (a.0, (load-marked wire j a.0 ∙ a.1.0, delivered-stays wire j a.0 a.1.1))

  counted-heard : (wire : List (Packet M)) (k n a b : ℕ) → load_at wire k ≡ Some (Ack n) → Counted wire a → (b ≡ a) ⊎ (b ≡ n) → Counted (marked wire k) b
  counted-heard wire k n a b is h (inl same) = subst (Counted (marked wire k)) (sym same) (counted-marked wire k a h)
  counted-heard wire k n a b is h (inr same) = subst (Counted (marked wire k)) (sym same) (inr (k, (load-marked wire k k ∙ is, delivered-here wire k (Ack n) is)))

  acked-hears : (w : Stream M) (k : ℕ) (o : Option (Load M)) → load_at w.back k ≡ o → Counted w.back w.sender.acked → Counted (hears (record w { back = marked w.back k }) o).back (hears (record w { back = marked w.back k }) o).sender.acked
  acked-hears w k None is h = counted-marked w.back k w.sender.acked h
  acked-hears w k (Some (Data n m)) is h = counted-marked w.back k w.sender.acked h
  acked-hears w k (Some (Ack n)) is h = counted-heard w.back k n w.sender.acked (max w.sender.acked n) is h (max-is w.sender.acked n)

  acked-gives : (w : Stream M) (x : M) (b : Bool) → Counted w.back w.sender.acked → Counted (gives w x b).back (gives w x b).sender.acked
  acked-gives w x true h = h
  acked-gives w x false h = h

  acked-goes : (w : Stream M) (o : Option (ℕ × M)) → Counted w.back w.sender.acked → Counted (goes_out w o).back (goes_out w o).sender.acked
  acked-goes w None h = h
  acked-goes w (Some p) h = h

  acked-again : (w : Stream M) (o : Option (ℕ × M)) → Counted w.back w.sender.acked → Counted (goes_again w o).back (goes_again w o).sender.acked
  acked-again w None h = h
  acked-again w (Some p) h = h

  acked-arrives : (w : Stream M) (o : Option (Load M)) → Counted w.back w.sender.acked → Counted (arrives w o).back (arrives w o).sender.acked
  acked-arrives w None h = h
  acked-arrives w (Some (Data n m)) h = h
  acked-arrives w (Some (Ack n)) h = h

  -- what is acknowledged was heard
  pub acked-happens : (w : Stream M) (e : Event M) → Progress w → ((happens w e).sender.acked ≡ 0) ⊎ HasHeard (happens w e).back (happens w e).sender.acked
  acked-happens w (Give x) h = acked-gives w x (is_worn w.sender) h.acked
  acked-happens w GoOut h = acked-goes w (due w.sender) h.acked
  acked-happens w (GoAgain j) h = acked-again w (outstanding w.sender j) h.acked
  acked-happens w (Deliver j) h = acked-arrives (record w { out = marked w.out j }) (load_at w.out j) h.acked
  acked-happens w TakeKept h = h.acked
  acked-happens w Acknowledge h = counted-pushed w.back (Ack w.receiver.count) w.sender.acked h.acked
  acked-happens w (DeliverBack j) h = acked-hears w j (load_at w.back j) refl h.acked
  acked-happens w (OtherAck j) h = h.acked
  acked-happens w (OtherData j x) h = counted-pushed w.back (Data j x) w.sender.acked h.acked
