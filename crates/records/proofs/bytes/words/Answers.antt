use Rattle.std.proofs.Common.{◌≡◌, ℕ, ◌/◌, List, length, map, Ok, Err, Result, IfOk, vec_items, Vec, ◌∙◌, rules}
use Rattle.std.specs.declared.alloc.Global.{Global}
use Rattle.std.specs.declared.alloc.AllocError.{AllocError}
use Rattle.std.specs.Simd.{first_chunks}
use Rattle.records.specs.Bytes.{words_in}
use Rattle.records.proofs.Words.{word, same_words}
use Rattle.records.proofs.bytes.words.Goals as goal

read : (bytes : List ℕ) (r : Result (Vec ℕ Global) AllocError) → IfOk r (λ v. vec_items v ≡ map word (first_chunks 4 (length bytes / 4) bytes)) → IfOk r (λ v. vec_items v ≡ words_in bytes)
read bytes (Ok v) e = e ∙ same_words bytes (length bytes / 4) 0
read bytes (Err a) e = tt

pub returns : goal.returns
returns c = let e : IfOk c.collect.result (λ v. v.items ≡ map word (first_chunks 4 (length c.args.bytes.now / 4) c.args.bytes.now)) = search rules in read c.args.bytes.now c.collect.result e
