use Rattle.std.proofs.Common.{arith, refl, sym, ◌∙◌, length}
use Rattle.std.proofs.lemmas.Slice.{put_mid-paste}
use Rattle.std.proofs.lemmas.List.Edits.{sets-eq}
use Rattle.std.proofs.Math.Seq.{take-length}
use Rattle.sheet.proofs.lines.put_text.Goals as goal

pub returns : goal.returns
returns c =
    let b = c.args.buffer.now in
    let t = c.args.text.now in
    record {
      bytes =
          put_mid-paste c.args.at _ b _ t (length t) c.copy_from_slice.ensures.after (omega arith) refl
          ∙ rw (take-length t) (sym (sets-eq t b c.args.at (omega arith)));
      place = refl;
    }
