use Rattle.std.proofs.Common.{◌≡◌, ◌+◌, ◌/◌, ◌%◌, arith}
use Rattle.property.proofs.digits.read_four.Goals as goal

pub returns-in_err-rest : goal.returns-in_err-rest
returns-in_err-rest c =
    rw c.from_residual-in_err-rest.ensures
    (λ n h e.
    let tens : c.args.c ≡ 48 + n / 10 % 10 = cc in
    let ones : c.args.d ≡ 48 + n % 10 = cc in
    let t : n % 100 / 10 ≡ n / 10 % 10 = omega arith in
    let u : n % 100 % 10 ≡ n % 10 = omega arith in
    c.in_err-rest.ensures (n % 100) (omega arith) cc)
