-- Tables to which pieces were added that were read.
use Rattle.std.proofs.Common.{◌≡◌, ◌<◌, ◌≤◌, ℕ, List, [], ◌∷◌, length, map, get_or, Some, refl, sym, ap, subst, ◌∙◌, arith}
use Rattle.std.proofs.Common.{string_bytes}
use Rattle.std.proofs.lemmas.List.{length-map}
use Rattle.std.proofs.lemmas.Option.{slice_get_within}
use Rattle.std.specs.Prelude.{replicate, vec_len}
use Rattle.serde_json.specs.Data.{Data, object}
use Rattle.serde_json.specs.Read.{read}
use Rattle.elasticlunr_error.specs.Text.{Bytes, bytes_of}
use Rattle.elasticlunr_piece_head.specs.Head.{Says}
use Rattle.elasticlunr_piece_head.specs.declared.head.PieceHead.{PieceHead}
use Rattle.elasticlunr_piece_search.specs.Entries.{AreEntriesAdded, piece_value}
use Rattle.elasticlunr_pieces.specs.Entries.{references, token_members}
use Rattle.elasticlunr_pieces.specs.Pieces.{ArePieces, IsHead, tokens_text}
use Rattle.elasticlunr_pieces.specs.declared.making.Head.{Head}
use Rattle.elasticlunr_print.specs.Parts.{plan_of_parts}
use Rattle.elasticlunr_print.specs.declared.parts.Parts.{Parts}
use Rattle.elasticlunr_store.specs.Contents.{TextMap}
use Rattle.elasticlunr_trie.specs.Table.{Table, new_table}
use Rattle.elasticlunr_piece_laws.specs.Heads.{IsHeadOf}
use Rattle.elasticlunr_piece_laws.specs.Held.{HavePostingsOf}
use Rattle.elasticlunr_piece_laws.specs.ReadPieces.{AreAdded, IsReadHead}
use Rattle.elasticlunr_piece_texts.specs.Texts.{HasSmallNumbers, beginnings_of, printed_head}
use Rattle.elasticlunr_piece_laws.specs.Whole.{IsWhole}
use Rattle.elasticlunr_piece_laws.proofs.Added.{new_alone, piece_added, piece_more}
use Rattle.elasticlunr_piece_texts.proofs.PlainHead.{head_read}
use Rattle.elasticlunr_piece_texts.proofs.PlainPieces.{as_many_firsts, group_sorted, piece_read}
use Rattle.elasticlunr_piece_laws.proofs.Told.{head_told}
use Rattle.elasticlunr_piece_laws.proofs.Whole.{members_told, token_not_empty}

one_value : (v w : Data) → Some v ≡ Some w → v ≡ w
one_value v w e = cc

module _ (parts : Parts) (field : Bytes) (size : ℕ) (tries : List (List Bytes)) (texts : List (List TextMap))
    (titles : List (List Bytes)) (a : ArePieces parts field size tries texts titles) (whole : IsWhole parts)
    (small : HasSmallNumbers parts tries texts titles) where
  -- the text of a piece of the tries is read as its value
  tokens_read : (n : ℕ) → n < length tries → read (tokens_text parts (get_or tries n []))
      ≡ Some (object (token_members (references parts.store.now) parts.tries.now (get_or tries n [])))
  tokens_read n lt = piece_read (references parts.store.now) small.references parts.tries.now whole.are_tables
      (get_or tries n []) (group_sorted (tokens_text parts) size tries a.tokens n a.tries_cut a.are_tokens.order lt)

  value_read : (printed : Head) → IsHead parts field tries texts titles printed
      → read (string_bytes printed.text) ≡ Some (printed_head parts field tries texts titles)
  value_read printed is = ap read is.text
      ∙ head_read parts.store.now small.contents (plan_of_parts parts) (references parts.store.now)
      (beginnings_of parts field tries texts titles) small.sizes small.in_texts small.in_titles

  -- what is read of the head says what the index has
  pub head_says : (printed : Head) → IsHead parts field tries texts titles printed → (head : PieceHead)
      → IsReadHead (string_bytes printed.text) head → IsHeadOf parts tries head
  head_says printed is head (v, reads, says) =
      let same = one_value v (printed_head parts field tries texts titles) (sym reads ∙ value_read printed is) in
      head_told parts tries (beginnings_of parts field tries texts titles) head refl (subst (λ d. Says d head) same says)

  module _ (head : PieceHead) (is : IsHeadOf parts tries head) where
    abbrev text_of : ℕ → Bytes
    text_of n = tokens_text parts (get_or tries n [])

    as_many : vec_len head.fields ≡ length parts.tries.now
    as_many = head.fields.ok.0 ∙ sym (length-map head.fields.items string_bytes) ∙ ap length is.fields
        ∙ length-map parts.fields.now string_bytes ∙ sym parts.one_each

    -- the tables have the postings of the pieces that were added
    pub have_added : (numbers : List ℕ) (others : List Table)
        → AreAdded head text_of numbers (replicate (vec_len head.fields) new_table) others
        → HavePostingsOf tries numbers parts.tries.now others
    have_added [] others are = subst (HavePostingsOf tries [] parts.tries.now)
        (ap (λ n. replicate n new_table) (sym as_many) ∙ sym are) (new_alone tries parts.tries.now)
    have_added (n ∷ ns) others (between, entries, before, piece, added) =
        let have = have_added ns between before in
        let tops = ap length is.first_tokens ∙ as_many_firsts (tokens_text parts) size tries a.tokens a.tries_cut in
        let there = slice_get_within (bytes_of head.tries.items) n piece.tokens.first piece.tokens.is_first in
        let lt : n < length tries = omega (arith, there, tops) in
        let value = one_value (piece_value entries) (object (token_members (references parts.store.now)
        parts.tries.now (get_or tries n []))) (sym piece.reads ∙ tokens_read n lt) in
        let set = piece_added (references parts.store.now) parts.tries.now whole.numbers entries (get_or tries n [])
        between others have.many (members_told _ _ value)
        (token_not_empty parts field size tries texts titles a whole n lt)
        (subst (λ names. AreEntriesAdded names entries between others) is.names added) in
        piece_more tries ns n parts.tries.now between others have set.0 set.1
