-- The bytes of a question (RFC 9112, section 3): a GET with the fields that the service looks at.
use Rattle.std.specs.Prelude.{ℕ, List, ◌++◌, codes}
use Rattle.std.specs.Str.{encode_utf8_all}

-- the target, the host and the actor, as they are written
unfoldable pub question_text : List ℕ → List ℕ → List ℕ → List ℕ
question_text target host user =
    codes "GET " ++ (encode_utf8_all target ++ (codes " HTTP/1.1\r\nHost: " ++ (encode_utf8_all host
    ++ (codes "\r\nx-user: " ++ (encode_utf8_all user ++ codes "\r\n\r\n")))))
