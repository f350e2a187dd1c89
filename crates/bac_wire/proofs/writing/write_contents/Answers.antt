use Rattle.std.proofs.Common.{◌+◌, ◌/◌, ◌^◌, ◌<◌, ℕ, Bool, List, length, Result, Ok, Err, OnOk, length-append, arith}
use Rattle.bac_wire.specs.Tag.{class_bits}
use Rattle.bac_wire.specs.Datagram.{Writes}
use Rattle.bac_wire.specs.Canon.{tagged, head_octets, bit_octets}
use Rattle.bac_wire.proofs.Canonical.{packed_length}
use Rattle.bac_wire.proofs.writing.write_contents.Goals as goal

few_bits : {E : Type 0} (old new : List ℕ) (r : Result (Unit {0}) E) (class tag : ℕ) (bits : List Bool) → Writes old (tagged class tag (bit_octets bits)) r new → OnOk r (length bits < 2 ^ 32)
few_bits old new (Ok u) class tag bits w =
    omega (arith, w.1, length-append (head_octets class tag (length (bit_octets bits))) (bit_octets bits), packed_length ((length bits + 7) / 8) bits)
few_bits old new (Err e) class tag bits w = tt

pub returns-in-Bits-clause-valid : goal.returns-in-Bits-clause-valid
returns-in-Bits-clause-valid c = rw c.in-Bits.is (few_bits c.args.out.now c.write_bits.new.out c.write_bits.result (class_bits c.args.class) c.args.tag _ c.write_bits.ensures)
