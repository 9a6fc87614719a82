use Rattle.std.proofs.Common.{arith, refl, ◌≡◌, ◌≤◌, ◌∙◌, ◌++◌, ◌∷◌, [], ℕ, ℤ, List, sym, ap, length, w64, to_z, of_z, FitsSigned}
use Rattle.std.specs.Fmt.{signed_decimal}
use Rattle.std.proofs.lemmas.Int.{to_z-of_z}
use Rattle.folds.specs.Laid.{bytes_to}
use Rattle.folds.specs.Put.{Put}
use Rattle.folds.proofs.Puts.{put_same, put_then, put_none, put_next}
use Rattle.sheet.specs.Ascii.{space, line_feed}
use Rattle.sheet.specs.Sheet.{field_at}
use Rattle.sheet.specs.Decimal.{text_of}
use Rattle.sheet.proofs.Decimals.{printed_signed, text_most}
use Rattle.sheet.proofs.Sizes.{ended, field_fits, fields_most, line_is, line_most}
use Rattle.sheet.proofs.lines.put_line.Goals as goal

-- the text of the number that was read is the field's
held : (z field : ℤ) → FitsSigned w64 field → z ≡ field → signed_decimal (to_z w64 (of_z w64 z)) ≡ text_of field
held z field f e = ap (λ (y : ℤ). signed_decimal (to_z w64 (of_z w64 y))) e ∙ ap signed_decimal (to_z-of_z w64 field f) ∙ printed_signed field f

short : (z : ℤ) → FitsSigned w64 z → length (signed_decimal (to_z w64 (of_z w64 z))) ≤ 20
short z f = omega (arith, ap length (held z z f refl), text_most z f)

put_held : {b a : List ℕ} {at r : ℕ} (z field : ℤ) (end : ℕ) → FitsSigned w64 field → z ≡ field → Put b a at (signed_decimal (to_z w64 (of_z w64 z)) ++ (end ∷ [])) r → Put b a at (text_of field ++ (end ∷ [])) r
put_held z field end f e p = put_same (ap (λ (t : List ℕ). t ++ (end ∷ [])) (held z field f e)) p

pub loop-field-init : goal.loop-field-init
loop-field-init c = put_none _ _ _

pub put_ended-next-requires : goal.put_ended-next-requires
put_ended-next-requires c =
    let fits = field_fits c.args.results.now c.args.m c.type_inv.results in
    omega (arith, fields_most c.args.results.now c.args.m fits c.loop-field.field, short c.read-z.result (record { sfits = c.read-z.type_inv }))

pub loop-field-preserved : goal.loop-field-preserved
loop-field-preserved c =
    let j = c.loop-field.field in
    put_next _ j c.loop-field.invariant (put_held _ _ space (field_fits c.args.results.now c.args.m c.type_inv.results j) c.read-z.ensures c.put_ended-next.ensures)

pub put_ended-requires : goal.put_ended-requires
put_ended-requires c =
    let fits = field_fits c.args.results.now c.args.m c.type_inv.results in
    omega (arith, fields_most c.args.results.now c.args.m fits c.loop-field.field, short c.read-z-2.result (record { sfits = c.read-z-2.type_inv }))

pub returns-clause-put : goal.returns-clause-put
returns-clause-put c =
    let xs = c.args.results.now in
    let m = c.args.m in
    let f = ended space xs m in
    let all : bytes_to f c.loop-field.field ≡ bytes_to f 8 = ap (bytes_to f) (omega arith) in
    put_same (sym (line_is xs m))
    (put_then (put_same all c.loop-field.invariant)
    (put_held _ (field_at xs m 8) line_feed (field_fits xs m c.type_inv.results 8) c.read-z-2.ensures c.put_ended.ensures))

pub returns-clause-upper_bound : goal.returns-clause-upper_bound
returns-clause-upper_bound c = omega (arith, (returns-clause-put c).place, line_most c.args.results.now c.args.m c.type_inv.results)
