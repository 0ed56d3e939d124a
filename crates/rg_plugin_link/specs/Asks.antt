-- What a message asks of a plugin. To be read first.
use Rattle.std.specs.Prelude.{◌&&◌, Bool, bytes_eq, codes}
use Rattle.std.specs.Str.{encode_utf8_all}
use Rattle.rg_http.specs.declared.message.Message.{Message}

-- it asks how the plugin stands: to the letter, and nobody need say who asks
unfoldable pub asks_health : Message → Bool
asks_health m = bytes_eq (encode_utf8_all m.method) (codes "GET") && bytes_eq (encode_utf8_all m.target) (codes "/service/plugin/health")
