-- Packets that stand one behind another in one list of bytes.
use Rattle.dm_wire.proofs.Names.{◌≡◌, ℕ, zero, suc, ◌+◌, ◌-◌, ◌<◌, ◌≤◌, Bool, true, false, List, [], ◌∷◌, ◌++◌, length, get_or, slice_range, slice_set, None, Some, inl, inr, leb_tells, length-set, take, drop, ap, ap₂, refl, ◌∙◌, arith}
use Rattle.dm_wire.proofs.Names.{length-append, length-drop, drop_at, take_all, drop-append-le, take-append-le, AreEnds, HoldPackets, IsCursor, Sent, beginning, bytes_at, packets_in, just_put, marked, seen_at}
use Rattle.dm_wire.proofs.Cursor.{seen_at_marked}

-- how many they are
pub length_in : (bytes : List ℕ) (from : ℕ) (ends : List ℕ) (marks : List Bool) → length marks ≡ length ends → length (packets_in bytes from ends marks) ≡ length ends
length_in bytes from [] marks e = refl
length_in bytes from (end ∷ ends) [] e = absurd (omega (arith, e))
length_in bytes from (end ∷ ends) (m ∷ marks) e = ap suc (length_in bytes end ends marks (omega (arith, e)))

-- which of them were delivered
pub seen_at_in : (bytes : List ℕ) (from : ℕ) (ends : List ℕ) (marks : List Bool) (k : ℕ) → length marks ≡ length ends → seen_at (packets_in bytes from ends marks) k ≡ get_or marks k false
seen_at_in bytes from [] [] k e = refl
seen_at_in bytes from [] (m ∷ marks) k e = absurd (omega (arith, e))
seen_at_in bytes from (end ∷ ends) [] k e = refl
seen_at_in bytes from (end ∷ ends) (m ∷ marks) zero e = refl
seen_at_in bytes from (end ∷ ends) (m ∷ marks) (suc k) e = seen_at_in bytes end ends marks k (omega (arith, e))

-- a mark is one write
pub marked_in : (bytes : List ℕ) (from : ℕ) (ends : List ℕ) (marks : List Bool) (k : ℕ) → packets_in bytes from ends (slice_set marks k true) ≡ marked (packets_in bytes from ends marks) k
marked_in bytes from [] marks k = refl
marked_in bytes from (end ∷ ends) [] k = refl
marked_in bytes from (end ∷ ends) (m ∷ marks) zero = refl
marked_in bytes from (end ∷ ends) (m ∷ marks) (suc k) = ap (λ ps. record { bytes = slice_range bytes from end; seen = m } ∷ ps) (marked_in bytes end ends marks k)

-- no end lies past the bytes
ends_within : (from : ℕ) (ends : List ℕ) (len : ℕ) → AreEnds from ends len → from ≤ len
ends_within from [] len h = omega (arith, h)
ends_within from (end ∷ ends) len h = omega (arith, h.0, ends_within end ends len h.1)

-- a packet lies within the bytes
pub begins_before : (from : ℕ) (ends : List ℕ) (len k : ℕ) → AreEnds from ends len → k < length ends → beginning from ends k ≤ get_or ends k 0
begins_before from [] len k h lt = absurd (omega (arith, lt))
begins_before from (end ∷ ends) len zero h lt = h.0
begins_before from (end ∷ ends) len (suc k) h lt = begins_before end ends len k h.1 (omega (arith, lt))

pub ends_before : (from : ℕ) (ends : List ℕ) (len k : ℕ) → AreEnds from ends len → k < length ends → get_or ends k 0 ≤ len
ends_before from [] len k h lt = absurd (omega (arith, lt))
ends_before from (end ∷ ends) len zero h lt = ends_within end ends len h.1
ends_before from (end ∷ ends) len (suc k) h lt = ends_before end ends len k h.1 (omega (arith, lt))

-- the first begins where they all do, and each other one where the one before ends
pub begins_first : (from : ℕ) (ends : List ℕ) → beginning from ends 0 ≡ from
begins_first from [] = refl
begins_first from (end ∷ ends) = refl

pub begins_behind : (from : ℕ) (ends : List ℕ) (k : ℕ) → k < length ends → beginning from ends (suc k) ≡ get_or ends k 0
begins_behind from [] k lt = absurd (omega (arith, lt))
begins_behind from (end ∷ ends) zero lt = begins_first end ends
begins_behind from (end ∷ ends) (suc k) lt = begins_behind end ends k (omega (arith, lt))

-- the bytes of the packet with this number
pub bytes_in : (bytes : List ℕ) (from : ℕ) (ends : List ℕ) (marks : List Bool) (k : ℕ) → length marks ≡ length ends → k < length ends → bytes_at (packets_in bytes from ends marks) k ≡ Some (slice_range bytes (beginning from ends k) (get_or ends k 0))
bytes_in bytes from [] marks k e lt = absurd (omega (arith, lt))
bytes_in bytes from (end ∷ ends) [] k e lt = absurd (omega (arith, e))
bytes_in bytes from (end ∷ ends) (m ∷ marks) zero e lt = refl
bytes_in bytes from (end ∷ ends) (m ∷ marks) (suc k) e lt = bytes_in bytes end ends marks k (omega (arith, e)) (omega (arith, lt))

pub bytes_past : (bytes : List ℕ) (from : ℕ) (ends : List ℕ) (marks : List Bool) (k : ℕ) → length ends ≤ k → bytes_at (packets_in bytes from ends marks) k ≡ None
bytes_past bytes from [] marks k le = refl
bytes_past bytes from (end ∷ ends) [] k le = refl
bytes_past bytes from (end ∷ ends) (m ∷ marks) zero le = absurd (omega (arith, le))
bytes_past bytes from (end ∷ ends) (m ∷ marks) (suc k) le = bytes_past bytes end ends marks k (omega (arith, le))

-- more bytes behind them leave what stands before them
range_append : (bytes new : List ℕ) (from end : ℕ) → from ≤ end → end ≤ length bytes → slice_range (bytes ++ new) from end ≡ slice_range bytes from end
range_append bytes new from end le within =
    ap (take (end - from)) (drop-append-le from bytes new (omega arith))
    ∙ take-append-le (end - from) (drop from bytes) new (omega (arith, length-drop from bytes))

range_new : (bytes new : List ℕ) → slice_range (bytes ++ new) (length bytes) (length bytes + length new) ≡ new
range_new bytes new =
    ap (take (length bytes + length new - length bytes)) (drop_at bytes new (length bytes) refl)
    ∙ take_all (length bytes + length new - length bytes) new (omega arith)

-- one more packet
pub put_in : (bytes new : List ℕ) (from : ℕ) (ends : List ℕ) (marks : List Bool) → length marks ≡ length ends → AreEnds from ends (length bytes) → packets_in (bytes ++ new) from (ends ++ (length bytes + length new) ∷ []) (marks ++ false ∷ []) ≡ packets_in bytes from ends marks ++ just_put new ∷ []
put_in bytes new from [] [] e h = ap (λ bs. record { bytes = bs; seen = false } ∷ []) (ap (λ k. slice_range (bytes ++ new) k (length bytes + length new)) h ∙ range_new bytes new)
put_in bytes new from [] (m ∷ marks) e h = absurd (omega (arith, e))
put_in bytes new from (end ∷ ends) [] e h = absurd (omega (arith, e))
put_in bytes new from (end ∷ ends) (m ∷ marks) e h =
    ap₂ (λ bs ps. record { bytes = bs; seen = m } ∷ ps)
    (range_append bytes new from end h.0 (ends_within end ends (length bytes) h.1))
    (put_in bytes new end ends marks (omega (arith, e)) h.1)

ends_put : (from : ℕ) (ends : List ℕ) (len more : ℕ) → AreEnds from ends len → AreEnds from (ends ++ (len + more) ∷ []) (len + more)
ends_put from [] len more h = (omega (arith, h), refl)
ends_put from (end ∷ ends) len more h = (h.0, ends_put end ends len more h.1)

-- a packet more leaves the first that wasn't delivered, or is it
seen_at_put : (xs : List Sent) (bytes : List ℕ) (j : ℕ) → seen_at (xs ++ just_put bytes ∷ []) j ≡ seen_at xs j
seen_at_put [] bytes zero = refl
seen_at_put [] bytes (suc j) = refl
seen_at_put (x ∷ xs) bytes zero = refl
seen_at_put (x ∷ xs) bytes (suc j) = seen_at_put xs bytes j

cursor_put : (xs : List Sent) (bytes : List ℕ) (k : ℕ) → IsCursor xs k → IsCursor (xs ++ just_put bytes ∷ []) k
cursor_put xs bytes k h = record {
  within = omega (arith, h.within, length-append xs (just_put bytes ∷ []));
  below = λ j lt. seen_at_put xs bytes j ∙ h.below j lt;
  here = seen_at_put xs bytes k ∙ h.here;
}

pub hold_put : (bytes new : List ℕ) (ends : List ℕ) (marks : List Bool) (k : ℕ) → HoldPackets bytes ends marks k → HoldPackets (bytes ++ new) (ends ++ (length bytes + length new) ∷ []) (marks ++ false ∷ []) k
hold_put bytes new ends marks k h = record {
  each = omega (arith, h.each, length-append marks (false ∷ []), length-append ends ((length bytes + length new) ∷ []));
  ascend = rw (length-append bytes new) (ends_put 0 ends (length bytes) (length new) h.ascend);
  first = rw (put_in bytes new 0 ends marks h.each h.ascend) (cursor_put (packets_in bytes 0 ends marks) new k h.first);
}

-- one more mark, with the cursor at the next that has none
pub hold_marked : (bytes ends : List ℕ) (marks : List Bool) (k old new : ℕ) → HoldPackets bytes ends marks old → new ≤ length (slice_set marks k true)
    → ((j : ℕ) → old ≤ j → j < new → get_or (slice_set marks k true) j false ≡ true) → get_or (slice_set marks k true) new false ≡ false
    → HoldPackets bytes ends (slice_set marks k true) new
hold_marked bytes ends marks k old new h within below here =
    let each : length (slice_set marks k true) ≡ length ends = length-set marks k true ∙ h.each in
    record {
      each = each;
      ascend = h.ascend;
      first = record {
        within = omega (arith, within, each, length_in bytes 0 ends (slice_set marks k true) each);
        below = λ j lt.
            elim (leb_tells (suc j) old) [
              | inl e ↦ ap (λ ps. seen_at ps j) (marked_in bytes 0 ends marks k) ∙ seen_at_marked (packets_in bytes 0 ends marks) k j (h.first.below j e.1)
              | inr e ↦ seen_at_in bytes 0 ends (slice_set marks k true) j each ∙ below j (let f = e.1 in omega (arith, f)) lt
            ];
        here = seen_at_in bytes 0 ends (slice_set marks k true) new each ∙ here;
      };
    }
