use Rattle.std.proofs.Common.{◌≡◌, ap, arith, sym, ◌∙◌}
use Rattle.std.proofs.lemmas.List.{drop_all}
use Rattle.byte_ports.proofs.PortLemmas.{given-front, none-of}
use Rattle.byte_ports.specs.Memory.{MemoryPort}
use Rattle.byte_ports.proofs.memory.MemSourceSource.read.Goals as goal

pub returns-clause-bytes : goal.returns-clause-bytes
returns-clause-bytes c =
    let left = ap (λ (port : MemoryPort). port.bytes) c.self.view_is in (
      sym left ∙ given-front c.self.inside.at c.in_ok-count.count c.self.inside.bytes.items c.deref.result.now _ c.deref.ensures.value c.copy_front.ensures,
      λ none.
          let room : c.min.result ≡ 0 = none-of c.min.result c.in_ok-count.count c.in_ok-count.ensures.some none in
          sym left ∙ drop_all c.self.inside.at c.self.inside.bytes.items (omega arith),
    )
