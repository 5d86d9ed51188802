use Rattle.std.proofs.Common.{◌≡◌, ◌++◌, ◌+◌, ◌∷◌, [], List, ℕ, drop, sym, ap, ◌∙◌, get_or, drop-cons, add-one}
use Rattle.std.proofs.lemmas.List.{drop_all}
use Rattle.std.specs.Borrow.{Bor}
use Rattle.json.specs.Token.{begin_array}
use Rattle.json.specs.Tree.{items_tokens, json_tokens}
use Rattle.serde_json.specs.Data.{array}
use Rattle.serde_json.specs.Written.{items_outline, outline}
use Rattle.elasticlunr_error.specs.Text.{Bytes}
use Rattle.elasticlunr_print.proofs.Writing.{joined, ok_then}
use Rattle.elasticlunr_trie.specs.Tokens.{told_postings}
use Rattle.elasticlunr_pieces.specs.Entries.{numbered}
use Rattle.elasticlunr_pieces.specs.EntryTexts.{posting_tokens}
use Rattle.elasticlunr_pieces.specs.Numbers.{told_texts}
use Rattle.elasticlunr_pieces.proofs.Writing.{posting_written}
use Rattle.elasticlunr_pieces.proofs.tries.write_postings.Goals as goal

pub loop-posting-preserved : goal.loop-posting-preserved
loop-posting-preserved c =
    let names = told_texts c.args.numbers.now.references.items in
    let items = c.deref-posting-items.result.now in
    let i = c.loop-posting.posting-index in
    let none : Bor Bytes × ℕ = (record { ref_ptr = (0, 0); now = [] }, 0) in
    let posting = get_or items i none in
    let split : drop i items ≡ posting ∷ drop (i + 1) items =
    rw add-one (drop-cons items i none c.loop-posting-test.true) in
    posting_written names c.loop-posting.out c.write_posting.new.out _ (posting.0.now, posting.1)
    (told_postings (drop (i + 1) items))
    (c.in_ok-write_posting.ensures ∙ ap (λ n. c.loop-posting.out ++ posting_tokens n posting.1) c.number.ensures)
    (ap (λ ps. c.loop-posting.out ++ items_tokens (items_outline (numbered names (told_postings ps)))) (sym split)
    ∙ c.loop-posting.invariant)

pub returns : goal.returns
returns c = ok_then c.token-2.result c.token-2.ensures (λ done.
    let names = told_texts c.args.numbers.now.references.items in
    let items = c.deref-posting-items.result.now in
    let of = λ (ps : List (Bor Bytes × ℕ)). items_tokens (items_outline (numbered names (told_postings ps))) in
    let left = drop_all c.loop-posting.posting-index items c.loop-posting-test.false in
    let all : c.token-2.new.self ≡ c.token.new.self ++ of items =
    done ∙ ap (λ ps. c.loop-posting.out ++ of ps) (sym left) ∙ c.loop-posting.invariant in
    joined c.args.out.now c.token.new.self c.token-2.new.self (begin_array ∷ []) (of items)
    c.in_ok-token.ensures all
    ∙ ap (λ ps. c.args.out.now ++ json_tokens (outline (array (numbered names ps))))
    (ap told_postings c.deref-posting-items.ensures.value ∙ c.in_ok-postings.ensures))
