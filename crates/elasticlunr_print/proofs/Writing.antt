-- Tokens that are written one after the other.
use Rattle.std.proofs.Common.{◌≡◌, List, [], ◌∷◌, ◌++◌, Result, Ok, Err, codes, ap, ◌∙◌, append_assoc}
use Rattle.std.specs.Prelude.{OnOk}
use Rattle.json.specs.Token.{Token}
use Rattle.json.specs.Tree.{json_tokens, members_tokens}
use Rattle.serde_json.specs.Data.{Data, array}
use Rattle.serde_json.specs.Written.{members_outline, outline}
use Rattle.std.specs.List.{zip}
use Rattle.elasticlunr_commands.specs.Standing.{Plan}
use Rattle.elasticlunr_print.specs.Parts.{settings_members}
use Rattle.elasticlunr_print.specs.Printed.{texts, object_of, index_object}

-- what holds of an answer, where the last call's answer is the answer
pub ok_then : {T E : Type 0} (r : Result T E) {P Q : Type 0} → OnOk r P → (P → Q) → OnOk r Q
ok_then (Ok x) p f = f p
ok_then (Err e) p f = tt

-- first these, and then those
pub joined : {T : Type 0} (old between new these those : List T) → between ≡ old ++ these → new ≡ between ++ those → new
    ≡ old ++ (these ++ those)
joined old between new these those first second = second ∙ ap (λ ts. ts ++ those) first ∙ append_assoc old these those

-- the tokens of the last members, one after the other
pub settings_tokens : (plan : Plan) (t7 t8 t9 t10 t11 t12 t13 t14 t15 t16 : List Token)
    → t8 ≡ t7 ++ Token.key (codes "lang") ∷ []
    → t9 ≡ t8 ++ Token.string plan.language ∷ []
    → t10 ≡ t9 ++ Token.key (codes "pipeline") ∷ []
    → t11 ≡ t10 ++ json_tokens (outline (array (texts plan.stages)))
    → t12 ≡ t11 ++ Token.key (codes "ref") ∷ []
    → t13 ≡ t12 ++ Token.string plan.reference_field ∷ []
    → t14 ≡ t13 ++ Token.key (codes "version") ∷ []
    → t15 ≡ t14 ++ Token.string (codes "0.9.5") ∷ []
    → t16 ≡ t15 ++ Token.end_object ∷ []
    → t16 ≡ t7 ++ members_tokens (members_outline (settings_members plan))
settings_tokens plan t7 t8 t9 t10 t11 t12 t13 t14 t15 t16 e8 e9 e10 e11 e12 e13 e14 e15 e16 =
    let version = joined t13 t14 t16 _ _ e14 (joined t14 t15 t16 _ _ e15 e16) in
    let reference = joined t11 t12 t16 _ _ e12 (joined t12 t13 t16 _ _ e13 version) in
    let stages = joined t9 t10 t16 _ _ e10 (joined t10 t11 t16 _ _ e11 reference) in
    joined t7 t8 t16 _ _ e8 (joined t8 t9 t16 _ _ e9 stages)

-- the tokens of the value of an index, one after the other
pub index_tokens : (plan : Plan) (tries : List Data) (documents : Data) (t0 t1 t2 t3 t4 t5 t6 t7 t8 : List Token)
    → t1 ≡ t0 ++ Token.begin_object ∷ []
    → t2 ≡ t1 ++ Token.key (codes "documentStore") ∷ []
    → t3 ≡ t2 ++ json_tokens (outline documents)
    → t4 ≡ t3 ++ Token.key (codes "fields") ∷ []
    → t5 ≡ t4 ++ json_tokens (outline (array (texts plan.fields)))
    → t6 ≡ t5 ++ Token.key (codes "index") ∷ []
    → t7 ≡ t6 ++ json_tokens (outline (object_of (zip plan.fields tries)))
    → t8 ≡ t7 ++ members_tokens (members_outline (settings_members plan))
    → t8 ≡ t0 ++ json_tokens (outline (index_object plan tries documents))
index_tokens plan tries documents t0 t1 t2 t3 t4 t5 t6 t7 t8 e1 e2 e3 e4 e5 e6 e7 e8 =
    let index = joined t5 t6 t8 _ _ e6 (joined t6 t7 t8 _ _ e7 e8) in
    let fields = joined t3 t4 t8 _ _ e4 (joined t4 t5 t8 _ _ e5 index) in
    let store = joined t1 t2 t8 _ _ e2 (joined t2 t3 t8 _ _ e3 fields) in
    joined t0 t1 t8 _ _ e1 store
