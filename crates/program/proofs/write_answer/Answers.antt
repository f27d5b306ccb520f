use Rattle.std.proofs.Common.{rules, ◌≡◌, ℕ, List, ◌++◌, take, length, ap, subst}
use Rattle.std.proofs.Math.Seq.{take-append_seam}
use Rattle.program.proofs.write_answer.Goals as goal

-- what stands behind the buffer is not among its first bytes
front_of : (n size : ℕ) (left rest : List ℕ) → length left ≡ size → take n (take size (left ++ rest)) ≡ take n left
front_of n size left rest same = ap (take n) (subst (λ k. take k (left ++ rest) ≡ left) same (take-append_seam left rest))

pub returns : goal.returns
returns g c =
    let front : c.as_slice-2.result.now ≡ take c.in_ok-length.length c.answer.new.arg4 =
    search (rules, front_of) in (
      c.read_to_end.new.buf.items,
      c.as_slice-2.result.now,
      search rules,
      record {
        given = _;
        lent = _;
        length = c.in_ok-length.length;
        left = _;
        reads = search rules;
        blank = search rules;
        replies = c.in_ok-length.ensures;
        front = front;
      },
      search rules,
    )
