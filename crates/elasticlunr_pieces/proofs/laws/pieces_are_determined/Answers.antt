use Rattle.std.proofs.Common.{◌≡◌, ◌<◌, ◌≤◌, ◌++◌, ◌/◌, List, length, sym, ap, subst, arith}
use Rattle.elasticlunr_error.specs.Text.{Bytes}
use Rattle.elasticlunr_store.specs.Contents.{TextMap}
use Rattle.elasticlunr_json.specs.Maps.{keyed}
use Rattle.serde_json.specs.Data.{string}
use Rattle.serde_json.specs.Written.{compact_text}
use Rattle.elasticlunr_pieces.specs.Cut.{IsCut}
use Rattle.elasticlunr_pieces.specs.Entries.{documents_text, kept_documents, references, titles_text}
use Rattle.elasticlunr_pieces.specs.EntryTexts.{token_text_of}
use Rattle.elasticlunr_pieces.specs.Pieces.{titles_in, tokens_text}
use Rattle.elasticlunr_pieces.proofs.Groups.{tries_in_brackets, documents_in_brackets, titles_in_brackets}
use Rattle.elasticlunr_pieces.proofs.OneCut.{in_brackets_grows, one_cut, one_order}
use Rattle.elasticlunr_pieces.proofs.laws.pieces_are_determined.Goals as goal

pub returns : goal.returns
returns c parts field size tries other_tries texts other_texts titles other_titles a b =
    let names = references parts.store.now in
    let tables = parts.tries.now in
    let tries_grow : (xs ys : List Bytes) → 0 < length xs → length (tokens_text parts xs)
    ≤ length (tokens_text parts (xs ++ ys)) = λ xs ys some.
    let one = ap length (tries_in_brackets names tables xs) in
    let both = ap length (tries_in_brackets names tables (xs ++ ys)) in
    omega (arith, one, both, in_brackets_grows (token_text_of names tables) 123 125 xs ys some) in
    let texts_grow : (xs ys : List TextMap) → 0 < length xs → length (documents_text xs)
    ≤ length (documents_text (xs ++ ys)) = λ xs ys some.
    let one = ap length (documents_in_brackets xs) in
    let both = ap length (documents_in_brackets (xs ++ ys)) in
    omega (arith, one, both, in_brackets_grows (λ d. compact_text (keyed string d)) 91 93 xs ys some) in
    let titles_grow : (xs ys : List Bytes) → 0 < length xs → length (titles_text xs)
    ≤ length (titles_text (xs ++ ys)) = λ xs ys some.
    let one = ap length (titles_in_brackets xs) in
    let both = ap length (titles_in_brackets (xs ++ ys)) in
    omega (arith, one, both, in_brackets_grows (λ t. compact_text (string t)) 91 93 xs ys some) in
    let tokens : a.tokens ≡ b.tokens = one_order a.tokens b.tokens a.are_tokens.order b.are_tokens.order
    (λ t h. (b.are_tokens.all t).1 ((a.are_tokens.all t).0 h)) (λ t h. (a.are_tokens.all t).1 ((b.are_tokens.all t).0
    h)) in (
      one_cut (tokens_text parts) size tries_grow a.tokens tries other_tries a.tries_cut
          (subst (λ ts. IsCut (tokens_text parts) size ts other_tries) (sym tokens) b.tries_cut),
      one_cut documents_text (size / 8) texts_grow (kept_documents parts.store.now) texts other_texts a.texts_cut
          b.texts_cut,
      one_cut titles_text (size / 32) titles_grow (titles_in parts field) titles other_titles a.titles_cut b.titles_cut,
    )
