-- What a `Mac` was fed.
use Rattle.std.specs.Prelude.{ℕ, List, ◌++◌}
use Rattle.sha2.specs.Hashers.{Holds256}
use Rattle.seal_hmac.specs.Hmac.{key_block, masked}
use Rattle.seal_hmac.specs.declared.hashers.Mac.{Mac}

-- it was keyed with this key and fed this message: its inner hasher holds the key's block under the
-- mask 36 and the message, its outer one the key's block under the mask 5c
pub record Feeds (key message : List ℕ) (mac : Mac) : Type 0 where
  pub inner : Holds256 mac.inner (masked 0x36 (key_block key) ++ message)
  pub outer : Holds256 mac.outer (masked 0x5c (key_block key))
