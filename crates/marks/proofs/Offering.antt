-- A column that is taken is sound, and so is what is kept of it.
use Rattle.std.proofs.Common.{◌≡◌, ℕ, zero, suc, ◌+◌, ◌-◌, ◌<◌, ◌≤◌, false, not, List, [], ◌∷◌, ◌++◌, length, get_or, drop, replicate, None, Ok, sym, refl, ap, ◌∙◌, ap₂, subst, subst₂, arith}
use Rattle.std.proofs.lemmas.Bool.{lt-leb, ltb-false, eq-eqb, or_parts, cond-false}
use Rattle.std.proofs.lemmas.List.{drop-replicate}
use Rattle.std.proofs.lemmas.Grind.{common_steps}
use Rattle.std.proofs.lemmas.List.Elements.{All-append, All-replicate}
use Rattle.network.specs.Meaning.{Meaning, IsLink}
use Rattle.marks.specs.Columns.{number, Sound, AllSound, IsSmall}
use Rattle.marks.specs.Offers.{some_above, offer_refusal, breaks, kept, Offered}

-- no number is above the last tick
pub none_above : (last : ℕ) (column : List ℕ) → some_above last column ≡ false → (i : ℕ) → get_or column i 0 ≤ last
none_above last [] e i = omega arith
none_above last (x ∷ xs) e zero = ltb-false last x (or_parts _ _ e).0
none_above last (x ∷ xs) e (suc i) = none_above last xs (or_parts _ _ e).1 i

-- then they are all small, where the last tick is
pub small_column : (last : ℕ) (column : List ℕ) → last ≤ 604800 → some_above last column ≡ false → IsSmall column
small_column last [] h e k d l = absurd (omega arith)
small_column last (x ∷ xs) h e zero d l = omega (arith, ltb-false last x (or_parts _ _ e).0)
small_column last (x ∷ xs) h e (suc k) d l = small_column last xs h (or_parts _ _ e).1 k d (omega arith)

pub small_zeros : (n : ℕ) → IsSmall (replicate n 0)
small_zeros n = All-replicate (λ number. number ≤ 604800) n 0 (omega arith)

pub small_kept : (column : List ℕ) → IsSmall column → IsSmall (kept column)
small_kept column small = All-append (λ n. n ≤ 604800) column (replicate (1024 - length column) 0) small (small_zeros (1024 - length column))

-- a column copied to the front of zeros
pub padded_is : (column copied : List ℕ) → copied ≡ column → copied ++ drop (length column) (replicate 1024 0) ≡ kept column
padded_is column copied e = ap₂ (λ front rest. front ++ rest) e (drop-replicate (length column) 1024 0)

zeros : (n i : ℕ) → ◌≡◌ {A = ℕ} (get_or (replicate n 0) i 0) 0
zeros n i = grind (arith, common_steps)

-- zeros after a column change no number
padding : (column : List ℕ) (n i : ℕ) → get_or (column ++ replicate n 0) i 0 ≡ get_or column i 0
padding column n i = grind (arith, common_steps, zeros)

pub kept_number : (column : List ℕ) (v : ℕ) → number (kept column) v ≡ number column v
kept_number column zero = refl
kept_number column (suc i) = padding column (1024 - length column) i

ticks : (last : ℕ) (column : List ℕ) → some_above last column ≡ false → (v : ℕ) → number column v ≤ last
ticks last column e zero = omega arith
ticks last column e (suc i) = none_above last column e i

pub sound_kept : (net : Meaning) (column : List ℕ) → some_above net.last column ≡ false → ((k : ℕ) → IsLink net k → breaks net column k ≡ false) → Sound net (kept column)
sound_kept net column low rule = record {
  ticks = λ v l. subst (λ x. x ≤ net.last) (sym (kept_number column v)) (ticks net.last column low v);
  rule = λ k l. subst₂ (λ x y. x ≤ y + net.floor k) (sym (kept_number column (net.head k))) (sym (kept_number column (net.tail k))) (ltb-false _ _ (rule k l));
}

pub all_sound_more : (net : Meaning) (columns : List (List ℕ)) (column : List ℕ) → AllSound net columns → Sound net column → AllSound net (columns ++ column ∷ [])
all_sound_more net [] column s t = (t, tt)
all_sound_more net (c ∷ cs) column s t = (s.0, all_sound_more net cs column s.1 t)

-- what is answered to a column that is taken
pub taken : (net : Meaning) (columns : List (List ℕ)) (column : List ℕ) → length columns < 4 → length column ≡ net.places → some_above net.last column ≡ false → ((k : ℕ) → IsLink net k → breaks net column k ≡ false) → Offered net columns column (Ok tt)
taken net columns column room long low rule = record {
  refused = λ refusal e. absurd (let n = none in let z : ◌≡◌ {A = ℕ} 0 1 = cc in omega arith);
  judged = λ _. rule;
  sound = λ s. all_sound_more net columns (kept column) s (sound_kept net column low rule);
}
  where
    none : offer_refusal net columns column ≡ None
    none =
        cond-false _ _ _ (lt-leb 4 (length columns) room)
        ∙ (cond-false _ _ _ (ap not (eq-eqb _ _ long)) ∙ cond-false _ _ None low)
