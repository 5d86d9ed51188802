use Rattle.std.proofs.Common.{◌≡◌, ◌∷◌, ◌++◌, [], codes, refl, ap, ◌∙◌}
use Rattle.json.specs.Print.{print}
use Rattle.json.specs.Token.{Token, key}
use Rattle.json.specs.Tree.{json_tokens, members_tokens}
use Rattle.serde_json.specs.Data.{no_members, member, array, string, boolean}
use Rattle.serde_json.specs.Written.{outline, members_outline}
use Rattle.serde_json.proofs.Texts.{print-outline}
use Rattle.elasticlunr_pieces.specs.Head.{all_lengths, counts, head_value}
use Rattle.elasticlunr_pieces.specs.HeadTokens.{beginnings_of, WritesMember}
use Rattle.elasticlunr_pieces.specs.Numbers.{told_texts}
use Rattle.elasticlunr_print.specs.Parts.{plan_of_parts}
use Rattle.elasticlunr_print.specs.Printed.{texts}
use Rattle.elasticlunr_print.proofs.Writing.{joined}
use Rattle.elasticlunr_pieces.proofs.Writing.{member_written}
use Rattle.elasticlunr_pieces.proofs.head_value.head_text.Goals as goal

pub returns : goal.returns
returns c =
    let plan = plan_of_parts c.args.parts in
    let names = told_texts c.args.references.now in
    let contents = c.args.parts.store.now in
    let starts = beginnings_of c.args.places in
    let lengths = all_lengths contents plan.fields names in
    let m14 = no_members in
    let m13 = member (codes "version") (string (codes "0.9.5")) m14 in
    let m12 = member (codes "tries") (array (texts starts.tries)) m13 in
    let m11 = member (codes "titles") (array (counts starts.titles)) m12 in
    let m10 = member (codes "title") (string starts.title) m11 in
    let m9 = member (codes "texts") (array (counts starts.texts)) m10 in
    let m8 = member (codes "sizes") (array (counts starts.sizes)) m9 in
    let m7 = member (codes "save") (boolean plan.save) m8 in
    let m6 = member (codes "references") (array (texts names)) m7 in
    let m5 = member (codes "ref") (string plan.reference_field) m6 in
    let m4 = member (codes "pipeline") (array (texts plan.stages)) m5 in
    let m3 = member (codes "lengths") (array lengths) m4 in
    let m2 = member (codes "lang") (string plan.language) m3 in
    let m1 = member (codes "folder") (string starts.folder) m2 in
    let m0 = member (codes "fields") (array (texts plan.fields)) m1 in
    let begun = c.begin_object.new.self in
    let total = begun ++ members_tokens (members_outline m0) in
    let save : WritesMember c.write_texts.new.out c.boolean.new.self (codes "save") (boolean plan.save) =
    joined c.write_texts.new.out c.key.new.self c.boolean.new.self (key (codes "save") ∷ [])
    (Token.boolean plan.save ∷ []) c.in_ok-key.ensures (c.in_ok-boolean.ensures
    ∙ ap (λ b. c.key.new.self ++ Token.boolean b ∷ []) c.is_stored.ensures) in
    let e1 = member_written begun c.write_names.new.out total (codes "fields") (array (texts plan.fields)) m1
    c.in_ok-write_names.ensures refl in
    let e2 = member_written c.write_names.new.out c.write_text.new.out total (codes "folder") (string starts.folder) m2
    c.in_ok-write_text.ensures e1 in
    let e3 = member_written c.write_text.new.out c.write_text-2.new.out total (codes "lang") (string plan.language) m3
    c.in_ok-write_text-2.ensures e2 in
    let e4 = member_written c.write_text-2.new.out c.write_lengths.new.out total (codes "lengths") (array lengths) m4
    c.in_ok-write_lengths.ensures e3 in
    let e5 = member_written c.write_lengths.new.out c.write_names-2.new.out total (codes "pipeline") (array (texts
    plan.stages)) m5
    c.in_ok-write_names-2.ensures e4 in
    let e6 = member_written c.write_names-2.new.out c.write_text-3.new.out total (codes "ref") (string
    plan.reference_field) m6
    c.in_ok-write_text-3.ensures e5 in
    let e7 = member_written c.write_text-3.new.out c.write_texts.new.out total (codes "references") (array (texts
    names)) m7
    c.in_ok-write_texts.ensures e6 in
    let e8 = member_written c.write_texts.new.out c.boolean.new.self total (codes "save") (boolean plan.save) m8
    save e7 in
    let e9 = member_written c.boolean.new.self c.write_counts.new.out total (codes "sizes") (array (counts
    starts.sizes)) m9
    c.in_ok-write_counts.ensures e8 in
    let e10 = member_written c.write_counts.new.out c.write_counts-2.new.out total (codes "texts") (array (counts
    starts.texts)) m10
    c.in_ok-write_counts-2.ensures e9 in
    let e11 = member_written c.write_counts-2.new.out c.write_text-4.new.out total (codes "title") (string starts.title)
    m11
    c.in_ok-write_text-4.ensures e10 in
    let e12 = member_written c.write_text-4.new.out c.write_counts-3.new.out total (codes "titles") (array (counts
    starts.titles)) m12
    c.in_ok-write_counts-3.ensures e11 in
    let e13 = member_written c.write_counts-3.new.out c.write_texts-2.new.out total (codes "tries") (array (texts
    starts.tries)) m13
    c.in_ok-write_texts-2.ensures e12 in
    let e14 = member_written c.write_texts-2.new.out c.write_text-5.new.out total (codes "version") (string (codes
    "0.9.5")) m14
    c.in_ok-write_text-5.ensures e13 in
    let all : c.end_object.new.self ≡ json_tokens (outline (head_value plan contents names starts)) =
    c.in_ok-end_object.ensures ∙ e14 ∙ ap (λ ts. ts ++ members_tokens (members_outline m0))
    (c.in_ok-begin_object.ensures ∙ ap (λ ts. ts ++ Token.begin_object ∷ []) c.in_ok-out.ensures) in
    c.into_string.ensures ∙ ap print all ∙ print-outline (head_value plan contents names starts)
