-- Words by chunks of four bytes.
use Rattle.std.proofs.Common.{◌≡◌, ℕ, zero, suc, ◌+◌, ◌*◌, ◌<◌, List, [], ◌∷◌, map, take, drop, get_or, slice_index, refl, ap, ap₂, ◌∙◌, arith}
use Rattle.std.proofs.lemmas.List.{get_or-take, get_or-drop, drop-drop}
use Rattle.std.specs.List.{range_with_len}
use Rattle.std.specs.Simd.{first_chunks}
use Rattle.records.specs.Bytes.{word_at}

-- the word in four bytes
abbrev pub word : List ℕ → ℕ
word chunk = slice_index chunk 0 * 16777216 + slice_index chunk 1 * 65536 + slice_index chunk 2 * 256 + slice_index chunk 3

module _ (bytes : List ℕ) where
  byte : (k i : ℕ) → i < 4 → slice_index (take 4 (drop (4 * k) bytes)) i ≡ slice_index bytes (4 * k + i)
  byte k i h = get_or-take 4 (drop (4 * k) bytes) i 0 h ∙ get_or-drop (4 * k) bytes i 0

  same_word : (k : ℕ) → word (take 4 (drop (4 * k) bytes)) ≡ word_at bytes k
  same_word k = let a = byte k 0 (omega arith) in let b = byte k 1 (omega arith) in let d = byte k 2 (omega arith) in let e = byte k 3 (omega arith) in let z : 4 * k + 0 ≡ 4 * k = omega arith in rw (a, b, d, e, z) refl

  pub same_words : (n k : ℕ) → map word (first_chunks 4 n (drop (4 * k) bytes)) ≡ map (word_at bytes) (range_with_len k n)
  same_words zero k = refl
  same_words (suc n) k =
      let next : 4 * k + 4 ≡ 4 * (k + 1) = omega arith in
      ap₂ (λ w ws. w ∷ ws) (same_word k) (ap (λ ys. map word (first_chunks 4 n ys)) (drop-drop 4 (4 * k) bytes ∙ ap (λ m. drop m bytes) next) ∙ same_words n (k + 1))

  -- the word of each chunk
  chunk_from : (n i k : ℕ) → i < n → word (get_or (first_chunks 4 n (drop (4 * k) bytes)) i []) ≡ word_at bytes (k + i)
  chunk_from zero i k h = absurd (omega arith)
  chunk_from (suc n) zero k h = let z : k + 0 ≡ k = omega arith in same_word k ∙ rw z refl
  chunk_from (suc n) (suc i) k h =
      let next : 4 * k + 4 ≡ 4 * (k + 1) = omega arith in
      let step : k + 1 + i ≡ k + suc i = omega arith in
      ap (λ ys. word (get_or (first_chunks 4 n ys) i [])) (drop-drop 4 (4 * k) bytes ∙ ap (λ m. drop m bytes) next) ∙ (chunk_from n i (k + 1) (omega arith) ∙ ap (word_at bytes) step)

  pub chunk_word : (n i : ℕ) → i < n → word (get_or (first_chunks 4 n bytes) i []) ≡ word_at bytes i
  chunk_word n i h = let z : 0 + i ≡ i = omega arith in chunk_from n i 0 h ∙ ap (word_at bytes) z
