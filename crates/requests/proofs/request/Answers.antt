use Rattle.std.proofs.Common.{◌≡◌, ℕ, ◌/◌, ◌≤◌, List, [], length, get_or, Ok, Result, sym, ap, ◌∙◌, arith, rules}
use Rattle.std.proofs.lemmas.Bool.{le-leb, cond-true}
use Rattle.std.specs.Simd.{first_chunks}
use Rattle.records.specs.Bytes.{word_at}
use Rattle.records.proofs.Words.{word, chunk_word}
use Rattle.requests.specs.declared.question.Kind.{Kind}
use Rattle.requests.specs.declared.question.Request.{Request}
use Rattle.requests.specs.declared.question.Unread.{Unread}
use Rattle.requests.specs.Requests.{kind_in, asked_in, of_kind, request_in}
use Rattle.requests.proofs.request.Goals as goal

-- sixteen bytes whose first word names a kind
asked : (bytes : List ℕ) → 16 ≤ length bytes → (kind : Kind) → kind_in (word_at bytes 0) ≡ Ok kind → ◌≡◌ {A = Result Request Unread} (Ok (asked_in kind bytes)) (request_in bytes)
asked bytes long kind named = sym (cond-true _ _ _ (le-leb 16 (length bytes) long) ∙ ap (of_kind bytes) named)

pub returns : goal.returns
returns c =
    let bytes = c.args.bytes.now in
    let n = length bytes / 4 in
    let four : 4 ≤ n = omega (arith, c.in-len4-up.len_at_least, c.as_chunks.ensures.front_len) in
    let k : c.from_be_bytes.result ≡ word (get_or (first_chunks 4 n bytes) 0 []) = search rules in
    let s : c.from_be_bytes-2.result ≡ word (get_or (first_chunks 4 n bytes) 1 []) = search rules in
    let d : c.from_be_bytes-3.result ≡ word (get_or (first_chunks 4 n bytes) 2 []) = search rules in
    let t : c.from_be_bytes-4.result ≡ word (get_or (first_chunks 4 n bytes) 3 []) = search rules in
    let named : kind_in (word_at bytes 0) ≡ Ok c.in_ok-try_from.field-0 = ap kind_in (sym (k ∙ chunk_word bytes n 0 (omega arith))) ∙ search rules in
    rw (s ∙ chunk_word bytes n 1 (omega arith), d ∙ chunk_word bytes n 2 (omega arith), t ∙ chunk_word bytes n 3 (omega arith)) (asked bytes (omega arith) c.in_ok-try_from.field-0 named)
